use Rattle.std.proofs.Common.{◌≡◌, ◌<◌, ◌+◌, ◌∙◌, ℕ, List, length, arith, ap, inl, inr, length-set}
use Rattle.std.specs.Prelude.{slice_index, slice_set}
use Rattle.std.proofs.lemmas.Bool.{cases_lt}
use Rattle.std.proofs.lemmas.List.{get_or-set_same, get_or-set_other}
use Rattle.core_program.specs.State.{reg}
use Rattle.explain.proofs.departure.registers.Goals as goal
use Rattle.explain.proofs.departure.registers.Goals.{in-Some, in_default}

one_more : (words held : List ℕ) (k x : ℕ) → k < length words → x ≡ slice_index held k → ((n : ℕ) → n < k → slice_index words n ≡ slice_index held n)
    → (n : ℕ) → n < k + 1 → slice_index (slice_set words k x) n ≡ slice_index held n
one_more words held k x inside is so_far n l = elim (cases_lt n k) [
  | inl before ↦ get_or-set_other words k n x 0 (λ e. (absurd (omega (arith, e)))) ∙ so_far n before
  | inr after ↦ (let same : n ≡ k = omega arith in rw same (get_or-set_same words k x 0 inside ∙ is))
]

long_as : (words : List ℕ) (k x : ℕ) → length words ≡ 16 → length (slice_set words k x) ≡ 16
long_as words k x long = length-set words k x ∙ long

pub loop-number-preserved : goal.loop-number-preserved
loop-number-preserved c = elim c.match-new.branch [
  | in-Some w ↦ (
      let held : w.reg.result ≡ reg c.args.state.now c.loop-number.number = w.reg.ensures ∙ ap (reg c.args.state.now) w.in-Some.ensures.0 in
      let inside : c.loop-number.number < length c.loop-number.words = omega (arith, c.loop-number.invariant.long, w.in-Some.ensures.1) in
      record {
        long = ap length w.words-is ∙ long_as c.loop-number.words c.loop-number.number w.reg.result c.loop-number.invariant.long;
        so_far = λ n l. ap (λ ws. slice_index ws n) w.words-is ∙ one_more c.loop-number.words c.args.state.now.registers c.loop-number.number w.reg.result inside held c.loop-number.invariant.so_far n l;
      })
  | in_default w ↦ (let h = w.in_default.ensures in absurd (omega (arith, h)))
]
