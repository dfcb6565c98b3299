-- The first records of the logs of a set, log by log.
use Rattle.std.specs.Prelude.{◌≡◌, ◌↔◌, ℕ, zero, suc, ◌+◌, ◌≤◌, Bool, true, List, [], ◌∷◌, ◌++◌, refl, Option, Some, length, replicate, slice_get, slice_set}
use Rattle.std.proofs.Common.{sym, ◌∙◌, ap, subst, arith, length-set}
use Rattle.std.proofs.lemmas.List.{length_push}
use Rattle.std.proofs.lemmas.Option.{slice_get_within}
use Rattle.log_record.specs.declared.record.Record.{Record}
use Rattle.log_record.specs.Entries.{entry_cmp, entries_from}
use Rattle.line_stamps.specs.Ordered.{sorted}
use Rattle.verdict.proofs.Lists.{set_here, set_elsewhere}
use Rattle.merge_judge.specs.LaneParts.{LaneParts}
use Rattle.merge_judge.proofs.Places.{each_push, get_last, get_left}
use Rattle.merge_judge.specs.inner.Lanes.{AreLanes, IsLaneAt, IsLaneOf, IsMerged, IsSound, log_at}

-- the first record of each of the first n logs was read
pub record Opened {S : Type 0} (remaining : S → Option (List ℕ)) (failed : S → ℕ) (before after : List S) (n : ℕ) (lanes : List LaneParts) (clean : Bool) : Type 0 where
  pub all : AreLanes remaining failed before after n lanes clean (replicate (length before) [])
  pub rest : (k : ℕ) → n ≤ k → slice_get after k ≡ slice_get before k

-- nothing was merged yet
pub no_entries : (core n : ℕ) → entries_from core (replicate n []) ≡ []
no_entries core zero = refl
no_entries core (suc n) = no_entries (suc core) n

pub none_there : (n k : ℕ) → log_at (replicate n []) k ≡ []
none_there zero k = refl
none_there (suc n) zero = refl
none_there (suc n) (suc k) = none_there n k

-- one more
pub opened_more : {S : Type 0} {remaining : S → Option (List ℕ)} {failed : S → ℕ} {before after : List S} {n : ℕ} {lanes : List LaneParts} {clean : Bool} → Opened remaining failed before after n lanes clean
    → (source source_new : S) → slice_get after n ≡ Some source → (lane : LaneParts) (clean_new : Bool)
    → IsLaneAt remaining failed n (length before) source source_new lane [] → (clean_new ≡ true) ↔ ((clean ≡ true) × IsSound lane)
    → Opened remaining failed before (slice_set after n source_new) (n + 1) (lanes ++ lane ∷ []) clean_new
opened_more {S} {remaining} {failed} {before} {after} {n} {lanes} {clean} h source source_new source_is lane clean_new at clean_is = record {
  all = record {
    readers = length-set after n source_new ∙ h.all.readers;
    some = h.all.some;
    few = h.all.few;
    logs = h.all.logs;
    many = omega (arith, length_push lanes lane, h.all.many);
    lane = each_push (λ k l. IsLaneOf remaining failed before after_new k l (log_at none k)) lanes lane
        (rw (h.all.many, none_there (length before) n) (record { first = source; now = source_new; is_first = sym (h.rest n (omega arith)) ∙ source_is; is_now = set_here after n source_new (slice_get_within after n source source_is); at = at }))
        (λ k l low hl. (let a = h.all.lane k l hl in
        record { first = a.first; now = a.now; is_first = a.is_first; is_now = set_elsewhere after n k source_new (λ e. omega (arith, low, e, h.all.many)) ∙ a.is_now; at = a.at }));
    clean_is = (
      λ e. each_push (λ k l. IsSound l) lanes lane (clean_is.0 e).1 (λ k l low hl. h.all.clean_is.0 (clean_is.0 e).0 k l hl),
      λ s. clean_is.1 (h.all.clean_is.1 (λ k l hl. s k l (get_left lanes (lane ∷ []) k (slice_get_within lanes k l hl) ∙ hl)), s (length lanes) lane (get_last lanes lane)),
    );
  };
  rest = λ k l. set_elsewhere after n k source_new (λ e. omega (arith, l, e)) ∙ h.rest k (omega (arith, l));
}
  where
    after_new : List S
    after_new = slice_set after n source_new

    none : List (List Record)
    none = replicate (length before) []

pub all_opened : {S : Type 0} {remaining : S → Option (List ℕ)} {failed : S → ℕ} {before after : List S} {n : ℕ} {lanes : List LaneParts} {clean : Bool} → Opened remaining failed before after n lanes clean
    → n ≡ length before → IsMerged remaining failed before after lanes clean (replicate (length before) []) []
all_opened {S} {remaining} {failed} {before} {after} {n} {lanes} {clean} h all = record {
  all = subst (λ k. AreLanes remaining failed before after k lanes clean (replicate (length before) [])) all h.all;
  total = sym (ap length (no_entries 0 (length before)));
  by_key_so_far = λ steady. sym (ap (sorted entry_cmp) (no_entries 0 (length before)));
  come_before = λ steady x p. absurd p;
}
