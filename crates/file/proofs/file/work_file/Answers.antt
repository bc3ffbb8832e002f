-- `file::file::work_file` meets its contract: the file's own tests come first, and what it holds is then worked as a sheet.
use Rattle.std.proofs.Common.{◌≡◌, ℕ, ◌+◌, ◌*◌, sym, ap, ◌∙◌, length, take, drop, length-take, length-drop, arith}
use Rattle.std.proofs.Math.Seq.{drop-drop, length-take-le}
use Rattle.file.specs.File.{words_of, inputs_part, steps_part, file_tests, verdict_of_file}
use Rattle.file.specs.Accepted.{FileFits}
use Rattle.call.proofs.Tests.{Passing, passing_of}
use Rattle.call.proofs.Answered.{passes_on, accepts}
use Rattle.call.proofs.Said.{refused_first}
use Rattle.file.proofs.FileTests.{file_refusing, file_fits, all_behind, writes_file}
use Rattle.file.proofs.Parts.{words_front}
use Rattle.call.proofs.Written.{later_refused}
use Rattle.file.proofs.file.work_file.Goals as goal
use Rattle.file.proofs.file.work_file.Goals.{After-read_words-words, In_ok-judge_file}

-- ---- the file's own tests have passed
passed : (c : In_ok-judge_file) → Passing (file_tests c.args.file.now)
passed c = passing_of (file_refusing c.args.file.now) (accepts c.in_ok-judge_file.ensures.0)

fit : (c : In_ok-judge_file) → FileFits c.args.file.now
fit c = file_fits c.args.file.now (passed c)

pub returns-in_err-judge_file : goal.returns-in_err-judge_file
unfolding verdict_of_file
returns-in_err-judge_file c =
    let v = refused_first (file_tests c.args.file.now) _ _ c.in_err-judge_file.ensures in
    record { count = passes_on _ _ _ c.from_residual.ensures v; later = later_refused _ 0 _ c.args.lent.now v }

pub bounds-file-5 : goal.bounds-file-5
bounds-file-5 c = omega (arith, (fit (goal.at.bounds-file-5 c).In_ok-judge_file).head)

pub bounds-file-6 : goal.bounds-file-6
bounds-file-6 c = omega (arith, (fit (goal.at.bounds-file-6 c).In_ok-judge_file).head)

pub bounds-file-7 : goal.bounds-file-7
bounds-file-7 c = omega (arith, (fit (goal.at.bounds-file-7 c).In_ok-judge_file).head)

pub slice_bounds-split_at-count : goal.slice_bounds-split_at-count
slice_bounds-split_at-count c = (fit (goal.at.slice_bounds-split_at-count c).In_ok-judge_file).head

pub slice_bounds-split_at-start : goal.slice_bounds-split_at-start
slice_bounds-split_at-start c = omega (arith, (fit (goal.at.slice_bounds-split_at-start c).In_ok-judge_file).head)

pub split_at-requires : goal.split_at-requires
split_at-requires c =
    let f = fit (goal.at.split_at-requires c).In_ok-judge_file in
    simp (length-take, length-drop) (omega (arith, f.whole, c.from-count.ensures))

pub read_words-words-requires : goal.read_words-words-requires
read_words-words-requires c =
    let f = fit (goal.at.read_words-words-requires c).In_ok-judge_file in
    (omega (arith, f.few_inputs, c.from-count.ensures), omega (arith, c.split_at.ensures.front_len))

pub slice_bounds-words-end : goal.slice_bounds-words-end
slice_bounds-words-end c =
    let f = fit (goal.at.slice_bounds-words-end c).In_ok-judge_file in
    omega (arith, f.few_inputs, c.from-count.ensures, c.read_words-words.ensures.0)

pub slice_bounds-work-end : goal.slice_bounds-work-end
slice_bounds-work-end c =
    let f = fit (goal.at.slice_bounds-work-end c).In_ok-judge_file in
    sym (length-take-le c.from-count.result c.read_words-words.result (omega (arith, f.few_inputs, c.from-count.ensures, c.read_words-words.ensures.0)))

-- ---- the two parts behind the head
inputs_are : (c : After-read_words-words) → take c.from-count.result c.read_words-words.result ≡ inputs_part c.args.file.now
inputs_are c =
    let file = c.args.file.now in
    let count = c.from-count.result in
    c.read_words-words.ensures.1
    ∙ ap (words_of count) (c.split_at.ensures.front ∙ ap (take (8 * count)) (all_behind 9 file))
    ∙ words_front count (drop 9 file)
    ∙ ap (λ (k : ℕ). words_of k (drop 9 file)) c.from-count.ensures

steps_are : (c : After-read_words-words) → c.split_at.result.1.now ≡ steps_part c.args.file.now
steps_are c =
    let file = c.args.file.now in
    c.split_at.ensures.back
    ∙ ap (drop (8 * c.from-count.result)) (all_behind 9 file)
    ∙ drop-drop (8 * c.from-count.result) 9 file
    ∙ ap (λ (k : ℕ). drop (9 + 8 * k) file) c.from-count.ensures

pub returns : goal.returns
returns c =
    let t = (goal.at.returns c).After-read_words-words in
    writes_file c.args.file.now _ _ _ _ _ (passed (goal.at.returns c).In_ok-judge_file) (inputs_are t) (steps_are t)
    (rw (c.from-n.ensures, c.from-es.ensures) at c.work.ensures)
