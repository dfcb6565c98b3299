-- The words of memory along an order of records.
use Rattle.std.specs.Prelude.{◌≡◌, ℕ, ◌<◌, Bool, true, false, cond, ◌&&◌, ◌==◌, List, [], ◌∷◌, ◌++◌, Some, find, slice_set}
use Rattle.std.proofs.Common.{sym, ◌∙◌, ap, inl, inr, arith, length-set}
use Rattle.std.proofs.lemmas.Bool.{cases_eq, eq-eqb, ne_eqb}
use Rattle.std.proofs.lemmas.List.{get_or-set_same, get_or-set_other, reverse-append}
use Rattle.mem_op.specs.declared.id.Source.{Source}
use Rattle.mem_op.specs.declared.id.Source.TheVariants.{Store as From}
use Rattle.log_record.specs.declared.record.Entry.{Entry}
use Rattle.address_check.specs.AddressFaults.{is_store, source_from, value_from}
use Rattle.merge_judge.specs.inner.Memory.{Holds, last_store_to}
use Rattle.verdict.proofs.Lists.{set_here, set_elsewhere}

abbrev pub stores_to : ℕ → Entry → Bool
stores_to addr e = is_store e.logged.act && (e.logged.addr == addr)

pub last_store_to-push : (addr : ℕ) (done : List Entry) (e : Entry) → last_store_to addr (done ++ e ∷ []) ≡ cond (stores_to addr e) (Some e) (last_store_to addr done)
last_store_to-push addr done e = ap (find (stores_to addr)) (reverse-append done (e ∷ []))

module _ (values : List ℕ) (sources : List Source) (done : List Entry) (e : Entry) (h : Holds values sources done) where
  module _ (addr : ℕ) (at : addr ≡ e.logged.addr) (within : addr < 65536) where
    pub holds_store : is_store e.logged.act ≡ true → Holds (slice_set values addr e.logged.value) (slice_set sources addr (From e.id)) (done ++ e ∷ [])
    holds_store is = record {
      words = length-set values addr e.logged.value ∙ h.words;
      origins = length-set sources addr (From e.id) ∙ h.origins;
      value = λ a l. elim (cases_eq a addr) [
        | inl t ↦ rw t (get_or-set_same values addr e.logged.value 0 (omega (arith, within, h.words)) ∙ ap value_from (sym here))
        | inr t ↦ get_or-set_other values addr a e.logged.value 0 t ∙ h.value a l ∙ ap value_from (sym (elsewhere a t))
      ];
      source = λ a l. elim (cases_eq a addr) [
        | inl t ↦ rw t (set_here sources addr (From e.id) (omega (arith, within, h.origins)) ∙ ap (λ o. Some (source_from o)) (sym here))
        | inr t ↦ set_elsewhere sources addr a (From e.id) t ∙ h.source a l ∙ ap (λ o. Some (source_from o)) (sym (elsewhere a t))
      ];
    }
      where
        written : (a : ℕ) (b : Bool) → (e.logged.addr == a) ≡ b → last_store_to a (done ++ e ∷ []) ≡ cond b (Some e) (last_store_to a done)
        written a b test = last_store_to-push a done e ∙ ap (λ s. cond (s && (e.logged.addr == a)) (Some e) (last_store_to a done)) is ∙ ap (λ s. cond s (Some e) (last_store_to a done)) test

        here : last_store_to addr (done ++ e ∷ []) ≡ Some e
        here = written addr true (eq-eqb e.logged.addr addr (sym at))

        elsewhere : (a : ℕ) → (a ≡ addr → ⊥) → last_store_to a (done ++ e ∷ []) ≡ last_store_to a done
        elsewhere a t = written a false (ne_eqb e.logged.addr a (λ q. t (sym q ∙ sym at)))
