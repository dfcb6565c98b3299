-- What an eviction tells of the line that went.
use Rattle.std.proofs.Common.{◌≡◌, ℕ, Bor, Bool, true, false, not, refl}
use Rattle.std.specs.Prelude.{Option, Some, None}
use Rattle.std.specs.Option.{is_some, option_copied}
use Rattle.line_stamps.specs.declared.line.Line.{Line}
use Rattle.line_stamps.specs.declared.message.Message.{Message}
use Rattle.line_stamps.specs.declared.message.Message.TheVariants.{FlushRep}
use Rattle.private_cache.specs.Answers.{evict_answer}
use Rattle.private_cache.specs.declared.answer.Evicted.TheVariants.{Nothing, Dropped, GiveBack}
use Rattle.private_cache.specs.declared.held.Held.{Held}
use Rattle.private_cache.specs.declared.held.Held.TheVariants.{Shared, Exclusive}

pub record WasOwned (a : ℕ) (held : Option Held) (m : Message) : Type 0 where
  pub modified : Bool
  pub line : Line
  pub there : held ≡ Some (Exclusive modified line)
  pub flushed : m ≡ FlushRep a line

pub was_owned : (a : ℕ) (held : Option Held) (m : Message) → GiveBack m ≡ evict_answer a held → WasOwned a held m
was_owned a None m e = absurd (cc)
was_owned a (Some (Shared l)) m e = absurd (cc)
was_owned a (Some (Exclusive modified l)) m e = record { modified = modified; line = l; there = refl; flushed = cc }

pub record WasShared (held : Option Held) : Type 0 where
  pub line : Line
  pub there : held ≡ Some (Shared line)

pub was_shared : (a : ℕ) (held : Option Held) → Dropped ≡ evict_answer a held → WasShared held
was_shared a None e = absurd (cc)
was_shared a (Some (Shared l)) e = record { line = l; there = refl }
was_shared a (Some (Exclusive modified l)) e = absurd (cc)

pub was_nothing : (a : ℕ) (held : Option Held) → Nothing ≡ evict_answer a held → held ≡ None
was_nothing a None e = refl
was_nothing a (Some (Shared l)) e = absurd (cc)
was_nothing a (Some (Exclusive modified l)) e = absurd (cc)

pub not_both : (b : Bool) → false ≡ not b → b ≡ false → ⊥
not_both true e f = absurd (cc)
not_both false e f = absurd (cc)

-- Where nothing is lent out, nothing is there.
pub nothing_lent : {T : Type 0} → (lent : Option (Bor T)) → option_copied lent ≡ None → is_some lent ≡ false
nothing_lent None e = refl
nothing_lent (Some x) e = absurd (cc)
