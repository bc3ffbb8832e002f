-- `file::inner::layout::read_words` meets its contract: after i turns the first i words are the first i of the bytes.
use Rattle.std.proofs.Common.{◌≡◌, ℕ, List, [], ◌∷◌, ◌++◌, ◌*◌, ◌/◌, ◌<◌, refl, sym, ap, ◌∙◌, length, get_or, take, drop, arith, w64, length-drop}
use Rattle.std.specs.Int.{from_le_bytes}
use Rattle.std.proofs.Math.Seq.{length-take-le}
use Rattle.std.proofs.lemmas.List.{length-set, take_more_set}
use Rattle.file.specs.File.{number_of, words_of}
use Rattle.sheet.proofs.Chunks.{chunk_at}
use Rattle.file.proofs.Numbers.{eight_read}
use Rattle.file.proofs.Parts.{words_more}
use Rattle.file.proofs.inner.layout.read_words.Goals as goal
use Rattle.file.proofs.inner.layout.read_words.Goals.{In-loop-i}

here : (c : In-loop-i) → c.loop-i.i < length c.args.bytes.now / 8
here c = omega (arith, c.requires.1, c.loop-i-test.true)

-- the eight bytes of this turn
eight : (c : In-loop-i) → get_or c.as_chunks.result.0.now c.loop-i.i [] ≡ take 8 (drop (8 * c.loop-i.i) c.args.bytes.now)
eight c =
    let k = c.loop-i.i in
    ap (λ (eights : List (List ℕ)). get_or eights k []) c.as_chunks.ensures.front ∙ chunk_at 8 k (length c.args.bytes.now / 8) c.args.bytes.now (here c)

pub loop-i-init : goal.loop-i-init
unfolding words_of
loop-i-init c = (refl, refl)

pub loop-i-preserved : goal.loop-i-preserved
loop-i-preserved c =
    let t = (goal.at.loop-i-preserved c).In-loop-i in
    let bytes = c.args.bytes.now in
    let l = c.loop-i in
    let k = l.i in
    let long : length (take 8 (drop (8 * k) bytes)) ≡ 8 = length-take-le 8 (drop (8 * k) bytes) (omega (arith, length-drop (8 * k) bytes, here t)) in
    let word : c.from_le_bytes.result ≡ number_of (take 8 (drop (8 * k) bytes)) =
    c.from_le_bytes.ensures ∙ ap (from_le_bytes w64) (eight t) ∙ eight_read (take 8 (drop (8 * k) bytes)) long in (
      length-set l.words k c.from_le_bytes.result ∙ l.invariant.0,
      take_more_set l.words k c.from_le_bytes.result (omega (arith, l.invariant.0, c.requires.0, t.loop-i-test.true))
          ∙ ap (λ (l : List ℕ). l ++ c.from_le_bytes.result ∷ []) l.invariant.1
          ∙ ap (λ (w : ℕ). words_of k bytes ++ w ∷ []) word
          ∙ sym (words_more k bytes),
    )

pub returns : goal.returns
returns c =
    let l = c.loop-i in
    let end : l.i ≡ c.args.count = omega (arith, c.loop-i-test.false, l.auto.i-end) in
    (l.invariant.0, ap (λ (k : ℕ). take k l.words) (sym end) ∙ l.invariant.1 ∙ ap (λ (k : ℕ). words_of k c.args.bytes.now) end)
