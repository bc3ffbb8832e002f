-- The tests of a word, 3 and 4: words that pass are real ranges.
use mathlib.Core.Path.{◌≡◌, refl}
use Prim.Native.Nat.{ℕ}
use borrow.Author.Tests.{leb-false, lt-leb}
use Rattle.call.specs.Verdict.{Verdict, done, first_hit}
use Rattle.call.proofs.Answered.{accepts}
use Rattle.word.specs.Word.{words}
use Rattle.word.specs.Member.{Real}
use Rattle.word.specs.Calls.{verdict_of_word}
use Rattle.word.specs.Refusal.{word_tests}
use Rattle.call.proofs.Tests.{Passing, all_pass, one_passes, Giving, gives_one, Refusing, gives_none, one_refuses, passing_of, head_passes, tail_passes}

-- ---- one word: 3 and 4
module _ (n place w : ℕ) where
  pub word_refusing : Refusing (word_tests n place w)
  unfolding word_tests
  word_refusing = one_refuses refl (one_refuses refl gives_none)

  -- both tests give their place
  pub word_place : Giving (λ v. v.place ≡ place) (word_tests n place w)
  unfolding word_tests
  word_place = gives_one refl (gives_one refl gives_none)

  pub word_verdict : {v : Verdict} → verdict_of_word n place w ≡ v → first_hit (word_tests n place w) ≡ v
  unfolding word_tests
  word_verdict s = s

  pub word_passing : verdict_of_word n place w ≡ done → Passing (word_tests n place w)
  word_passing z = passing_of word_refusing (accepts (word_verdict z))

  pub passing_real : Passing (word_tests n place w) → Real n w
  unfolding word_tests
  passing_real p = record { fits = leb-false (words n) w (head_passes p); no_infinity = head_passes (tail_passes p) }

  pub real_passing : Real n w → Passing (word_tests n place w)
  unfolding word_tests
  real_passing r = one_passes (lt-leb (words n) w r.fits) (one_passes r.no_infinity all_pass)
