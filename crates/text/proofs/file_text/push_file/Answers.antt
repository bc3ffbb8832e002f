-- `text::file_text::push_file` meets its contract: what working the file comes to decides between the refusal's line and the rows' lines.
use Rattle.std.proofs.Common.{◌≡◌, ℕ, List, ◌++◌, sym, ap, ◌∙◌, length, take, arith}
use Rattle.call.specs.Verdict.{Verdict, refused}
use Rattle.call.proofs.Answered.{refuses}
use Rattle.file.specs.Accepted.{FileFits}
use Rattle.file.specs.File.{width_of, verdict_of_file, rows_of_file}
use Rattle.text.specs.FileText.{most_rows}
use Rattle.text.specs.Text.{refusal_line, row_lines}
use Rattle.text.proofs.FileTexts.{refused_text, done_text, accepted, few_rows, was_done, rows_in_front}
use Rattle.text.proofs.file_text.push_file.Goals as goal
use Rattle.text.proofs.file_text.push_file.Goals.{In-Ok}

-- ---- the rows
module _ (c : In-Ok) where
  done : (verdict_of_file c.args.file.now most_rows).number ≡ 0
  done = was_done c.args.file.now c.in-Ok.count (rw c.in-Ok.is at c.work_file.ensures)

  fits : FileFits c.args.file.now
  fits = (accepted c.args.file.now done).fits

  front : take c.in-Ok.count c.work_file.new.lent ≡ rows_of_file c.args.file.now
  front = rows_in_front c.args.file.now c.in-Ok.count (rw c.in-Ok.is at c.work_file.ensures)

pub bounds-file-5 : goal.bounds-file-5
bounds-file-5 c = omega (arith, (fits (goal.at.bounds-file-5 c).In-Ok).head)

pub push_rows-requires : goal.push_rows-requires
push_rows-requires c =
    let e = (goal.at.push_rows-requires c).In-Ok in
    let few = few_rows c.args.file.now (done e) in
    (omega (arith, c.from.ensures, (fits e).format.not_too_wide), omega (arith, few, ap length (front e)), omega (arith, few, ap length (front e), c.requires))

pub returns-in-Ok : goal.returns-in-Ok
returns-in-Ok c =
    let file = c.args.file.now in
    let page = c.args.page.now.bytes in
    let e = (goal.at.returns-in-Ok c).In-Ok in
    c.push_rows.ensures
    ∙ ap (λ (n : ℕ). page ++ row_lines n 0 (take c.in-Ok.count c.work_file.new.lent)) c.from.ensures
    ∙ ap (λ (rows : List ℕ). page ++ row_lines (width_of file) 0 rows) (front e)
    ∙ ap (λ (l : List ℕ). page ++ l) (sym (done_text file (done e)))

-- ---- a refusal
pub returns-in-Err : goal.returns-in-Err
returns-in-Err c =
    let file = c.args.file.now in
    let page = c.args.page.now.bytes in
    let v : verdict_of_file file most_rows ≡ refused c.in-Err.field-0 = (rw c.in-Err.is at c.work_file.ensures).count in
    c.push_refusal.ensures
    ∙ ap (λ (number : ℕ). page ++ refusal_line number c.in-Err.field-0.place) c.number.ensures
    ∙ ap (λ (v : Verdict). page ++ refusal_line v.number v.place) (sym v)
    ∙ ap (λ (l : List ℕ). page ++ l) (sym (refused_text file (refuses _ v)))
