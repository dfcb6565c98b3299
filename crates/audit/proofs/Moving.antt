-- Fronts that move on by one entry, or by a reply that a core takes.
use Rattle.std.proofs.Common.{ℕ, ◌≡◌, ◌≢◌, ◌+◌, ◌<◌, ◌≤◌, true, false, List, Option, Some, None, length, sum, slice_index, inl, inr, refl, sym, ap, subst, ◌∙◌, arith}
use Rattle.std.specs.Prelude.{slice_get, slice_set}
use Rattle.std.specs.Option.{option_map_or}
use Rattle.std.proofs.lemmas.Bool.{cases_lt}
use Rattle.std.proofs.lemmas.Bool.Decides.{eqb_tells}
use Rattle.std.proofs.lemmas.List.{get_or-set_same, get_or-set_other, get_or_past, length-set}
use Rattle.std.proofs.lemmas.List.Sums.{sum_by-set}
use Rattle.line_stamps.specs.Messages.{addr_of}
use Rattle.line_stamps.specs.declared.message.Message.{Message}
use Rattle.line_stamps.specs.declared.message.Reply.{Reply}
use Rattle.manager_slice.specs.declared.managed.HistoryEntry.{HistoryEntry}
use Rattle.manager_slice.specs.declared.managed.HistoryEntry.TheVariants.{Evicted}
use Rattle.core_unit.specs.declared.entry.CoreEntry.{CoreEntry}
use Rattle.core_unit.specs.declared.entry.CoreEntry.TheVariants.{Got}
use Rattle.audit.specs.Lists.{transcript_of, history_of}
use Rattle.audit.specs.Merges.{is_own}
use Rattle.audit.specs.Pairs.{slice_of}
use Rattle.audit.specs.inner.Fronts.{AreFronts, SliceStuck, Stuck, Merging, IsDue, IsOneOn, goes_alone, waits_for}
use Rattle.audit.proofs.Orders.{slice_evicts}
use Rattle.audit.proofs.Progress.{fit_slice}

-- the entry of a core that goes on by itself
pub own_there : (T : List CoreEntry) (k : ℕ) → goes_alone T k ≡ true → (e : CoreEntry) × (slice_get T k ≡ Some e) × (is_own e ≡ true)
own_there T k h = by_entry (slice_get T k) refl h
  where
    by_entry : (o : Option CoreEntry) → slice_get T k ≡ o → option_map_or is_own o false ≡ true → (e : CoreEntry) × (slice_get T k ≡ Some e) × (is_own e ≡ true)
    by_entry None at h = absurd cc
    by_entry (Some e) at h = (e, at, h)

-- ---- places

pub sum_on : (p : List ℕ) (c : ℕ) → c < length p → sum (slice_set p c (slice_index p c + 1)) ≡ sum p + 1
sum_on p c lt = let s = sum_by-set (λ n. n) p c (slice_index p c + 1) 0 lt in omega arith

pub sum_up : (due : List ℕ) (s : ℕ) → s < length due → sum (slice_set due s 1) ≤ sum due + 1
sum_up due s lt = let k = sum_by-set (λ n. n) due s 1 0 lt in omega arith

pub one_on : (p : List ℕ) (c : ℕ) → c < length p → IsOneOn c p (slice_set p c (slice_index p c + 1))
one_on p c lt = record {
  count = length-set p c (slice_index p c + 1);
  more = omega (arith, sum_on p c lt);
  others = λ d n. get_or-set_other p c d (slice_index p c + 1) 0 n;
}

pub on_again : (c : ℕ) (p q r : List ℕ) → IsOneOn c p q → IsOneOn c q r → IsOneOn c p r
on_again c p q r h k = record {
  count = k.count ∙ h.count;
  more = omega (arith, h.more, k.more);
  others = λ d n. k.others d n ∙ h.others d n;
}

-- ---- slices that can't go on

module _ (ts : List (List CoreEntry)) (hs : List (List HistoryEntry)) where
  -- where neither its front nor the cores that it may serve went on
  stuck_still : (p q p' q' : List ℕ) (s : ℕ) → SliceStuck ts hs p q s → slice_index q' s ≡ slice_index q s
      → ((c : ℕ) (m : Message) (r : Reply) → slice_of (length hs) (addr_of m) ≡ s → slice_get (transcript_of ts c) (slice_index p' c) ≡ Some (Got m r) → slice_index p' c ≡ slice_index p c)
      → SliceStuck ts hs p' q' s
  stuck_still p q p' q' s h front cores = record {
    no_evicted = λ a at. h.no_evicted a (ap (slice_get (history_of hs s)) (sym front) ∙ at);
    no_pass = λ c m r at right got.
        h.no_pass c m r (ap (slice_get (history_of hs s)) (sym front) ∙ at) right
        (ap (slice_get (transcript_of ts c)) (sym (cores c m r right got)) ∙ got);
  }

  -- a slice was looked at, and can't go on
  pub rests : (p q due : List ℕ) (s : ℕ) → Merging ts hs p q due → s < length due → SliceStuck ts hs p q s → Merging ts hs p q (slice_set due s 0)
  rests p q due s h lt stuck = record {
    fronts = h.fronts;
    due = length-set due s 0 ∙ h.due;
    stuck = record {
      cores = h.stuck.cores;
      slices = λ t none. elim (eqb_tells s t) [
        | inl e ↦ subst (λ x. SliceStuck ts hs p q x) e.1 stuck
        | inr n ↦ h.stuck.slices t (sym (get_or-set_other due s t 0 0 (λ e. n.1 (sym e))) ∙ none)
      ];
    };
  }

  -- a slice evicts a line, and is looked at again
  pub evicted : (p q due : List ℕ) (s a : ℕ) → Merging ts hs p q due → IsDue due s → slice_get (history_of hs s) (slice_index q s) ≡ Some (Evicted a)
      → Merging ts hs p (slice_set q s (slice_index q s + 1)) due
  evicted p q due s a h is at = record {
    fronts = let lt : s < length q = omega (arith, is.0, h.fronts.slices) in record {
      reached = slice_evicts ts hs p q s a h.fronts.reached lt at;
      fit = fit_slice ts hs p q s (Evicted a) h.fronts.fit lt at;
      cores = h.fronts.cores;
      slices = length-set q s (slice_index q s + 1) ∙ h.fronts.slices;
    };
    due = h.due;
    stuck = record {
      cores = h.stuck.cores;
      slices = λ t none.
          let other : t ≢ s = λ e. is.1 (ap (slice_index due) (sym e) ∙ none) in
          stuck_still p q p _ t (h.stuck.slices t none) (get_or-set_other q s t (slice_index q s + 1) 0 other) (λ c m r right got. refl);
    };
  }

  -- A slice serves core c, which goes on by itself up to place p' and then waits for another slice, or for none. That slice is
  -- due for a look now.
  module _ (p q due p' due' : List ℕ) (c s : ℕ) (h : Merging ts hs p q due) (is : IsDue due s) (on : IsOneOn c p p')
      (fronts : AreFronts ts hs p' (slice_set q s (slice_index q s + 1)))
      (alone : goes_alone (transcript_of ts c) (slice_index p' c) ≡ false) where
    abbrev pub after : List ℕ
    after = slice_set q s (slice_index q s + 1)

    no_longer_alone : (d : ℕ) → goes_alone (transcript_of ts d) (slice_index p' d) ≡ false
    no_longer_alone d = elim (eqb_tells c d) [
      | inl e ↦ subst (λ x. goes_alone (transcript_of ts x) (slice_index p' x) ≡ false) e.1 alone
      | inr n ↦ ap (goes_alone (transcript_of ts d)) (on.others d (λ e. n.1 (sym e))) ∙ h.stuck.cores d
    ]

    pub passed : length due' ≡ length due
        → ((t : ℕ) → slice_index due' t ≡ 0 → (slice_index due t ≡ 0) × (waits_for (length hs) (slice_get (transcript_of ts c) (slice_index p' c)) ≢ Some t))
        → Merging ts hs p' after due'
    passed count marked = record {
      fronts = fronts;
      due = count ∙ h.due;
      stuck = record {
        cores = no_longer_alone;
        slices = λ t none.
            let was = marked t none in
            let other : t ≢ s = λ e. is.1 (ap (slice_index due) (sym e) ∙ was.0) in
            stuck_still p q p' after t (h.stuck.slices t was.0) (get_or-set_other q s t (slice_index q s + 1) 0 other)
            (λ d m r right got. elim (eqb_tells c d) [
              | inl e ↦
                  (let there : slice_get (transcript_of ts c) (slice_index p' c) ≡ Some (Got m r) = subst (λ x. slice_get (transcript_of ts x) (slice_index p' x) ≡ Some (Got m r)) (sym e.1) got in
                  absurd (was.1 (ap (waits_for (length hs)) there ∙ ap (λ x. Some x) right)))
              | inr n ↦ on.others d (λ e. n.1 (sym e))
            ]);
      };
    }

  -- no slice is due any more
  pub none_due : (p q due : List ℕ) → Merging ts hs p q due → ((s : ℕ) → s < 16 → slice_index due s ≡ 0) → Stuck ts hs p q
  none_due p q due h none = record {
    cores = h.stuck.cores;
    slices = λ s. h.stuck.slices s (elim (cases_lt s 16) [ inl lt ↦ none s lt | inr le ↦ get_or_past due s 0 (omega (arith, h.due)) ]);
  }

-- the slice that is waited for is marked
pub mark : (due : List ℕ) (w : ℕ) (waits : Option ℕ) → w < length due → waits ≡ Some w → (t : ℕ) → slice_index (slice_set due w 1) t ≡ 0 → (slice_index due t ≡ 0) × (waits ≢ Some t)
mark due w waits lt is t none = elim (eqb_tells w t) [
  | inl e ↦
      (let here : slice_index (slice_set due w 1) t ≡ 1 = subst (λ x. slice_index (slice_set due w 1) x ≡ 1) e.1 (get_or-set_same due w 1 0 lt) in
      absurd (omega (arith, here, none)))
  | inr n ↦ (sym (get_or-set_other due w t 1 0 (λ e. n.1 (sym e))) ∙ none, λ k. n.1 (let both : Some w ≡ Some t = sym is ∙ k in cc))
]
