-- `file::inner::layout::read_words` meets its contract: after i turns the first i words are the first i of the bytes.
use Rattle.std.proofs.Common.{◌≡◌, length, take}
use Rattle.file.specs.File.{words_of}
use Rattle.file.proofs.inner.layout.read_words.Given as goal

abbrev pub invariant-loop-i : goal.invariant-loop-i
invariant-loop-i l = (length l.words ≡ 32) × (take l.i l.words ≡ words_of l.i l.bytes)
