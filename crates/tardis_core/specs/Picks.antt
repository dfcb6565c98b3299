-- How a generator draws a core.
use Rattle.std.specs.Prelude.{◌≡◌, ℕ, ◌%◌, List, length, Some, slice_get}
use Rattle.rand_pcg.specs.Lcg.{Lcg}
use Rattle.rand_pcg.specs.Pcg.{pcg32}

-- a generator's next word
abbrev pub word : Lcg → ℕ
word g = (pcg32 g).0

-- the generator after it
abbrev pub one_word_on : Lcg → Lcg
one_word_on g = (pcg32 g).1

-- the core's place among these is the generator's word modulo their count
abbrev pub IsPick : Lcg → List ℕ → ℕ → Type 0
IsPick g cores core = slice_get cores (word g % length cores) ≡ Some core
