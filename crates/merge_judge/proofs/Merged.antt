-- A merge, one record further.
use Rattle.std.specs.Prelude.{◌≡◌, ◌↔◌, ◌&&◌, ℕ, ◌<◌, Bool, true, false, List, [], ◌∷◌, ◌++◌, refl, Option, Some, None, get_or, length, slice_get, slice_set}
use Rattle.std.proofs.Common.{sym, ◌∙◌, ap, subst, inl, inr, arith, length-set}
use Rattle.std.specs.Ordering.{is_lt}
use Rattle.std.proofs.lemmas.Bool.{and_from, and_parts, cases_eq}
use Rattle.std.proofs.lemmas.Bool.Decides.{nat_tests}
use Rattle.std.proofs.lemmas.List.{length_push}
use Rattle.std.proofs.lemmas.Option.{slice_get_read, slice_get_within}
use Rattle.core_program.specs.Least.{IsLeastWhere}
use Rattle.core_check.specs.CoreOrder.{falls, is_core_fault}
use Rattle.line_stamps.specs.Ordered.{In}
use Rattle.line_stamps.proofs.Order.{lt_trans}
use Rattle.line_stamps.proofs.Ordered.{In-append, In-from_sorted}
use Rattle.log_record.specs.declared.record.Record.{Record}
use Rattle.log_record.specs.declared.record.Entry.{Entry}
use Rattle.log_record.specs.Entries.{entry_cmp, entries}
use Rattle.address_check.proofs.Totals.{entry_total}
use Rattle.verdict.proofs.Lists.{set_here, set_elsewhere}
use Rattle.merge_judge.specs.LaneParts.{LaneParts}
use Rattle.merge_judge.specs.inner.Lanes.{AllEnded, AreLanes, AreSound, ComeBefore, IsFirstOf, IsLaneAt, IsLaneOf, IsMerged, IsNoLater, IsSound, IsStage, IsTaken, NoFalls, add, entry_at, front_list, log_at}
use Rattle.merge_judge.proofs.Added.{add_here, add_long, add_other, by_key_more, entries_more}
use Rattle.merge_judge.proofs.Falls.{fall_here_is}
use Rattle.merge_judge.proofs.LaneFacts.{few_answered}
use Rattle.merge_judge.proofs.Places.{each_by, one}
use Rattle.merge_judge.specs.inner.Following.{FollowsOn}
use Rattle.log_file.specs.Answering.{IsFaultless}
use Rattle.mem_op.specs.Limits.{operation_limit}

-- ---- the order of keys

-- a record that doesn't fall comes after the one before it
next_after : (a b : Record) (core i j : ℕ) → i < j → falls (Some a) (Some b) ≡ false → is_lt (entry_cmp (entry_at core i a) (entry_at core j b)) ≡ true
next_after a b core i j later not_falling = grind (arith, nat_tests)

-- ---- the merge

pub both_true : {P : Type 0} (a b : Bool) → (b ≡ true) ↔ P → ((a && b) ≡ true) ↔ ((a ≡ true) × P)
both_true a b is = (λ h. let t = and_parts a b h in (t.0, is.0 t.1), λ h. and_from a b h.0 (is.1 h.1))

module _ {S : Type 0} {remaining : S → Option (List ℕ)} {failed : S → ℕ} {before after : List S} {lanes : List LaneParts} {clean : Bool} {merged : List (List Record)} {done : List Entry}
    (m : IsMerged remaining failed before after lanes clean merged done) (core : ℕ) (in_lanes : core < length lanes) (first : IsFirstOf (length lanes) core lanes) (lane : LaneParts) (value : lane ≡ get_or lanes core lane) where
  lane_is : slice_get lanes core ≡ Some lane
  lane_is = slice_get_read lanes (length lanes) core lane refl in_lanes value

  no_later : (k : ℕ) (l : LaneParts) → slice_get lanes k ≡ Some l → IsNoLater core lane.front k l.front
  no_later k l h = first lane lane_is k l (slice_get_within lanes k l h) h

  -- where the first front is none, all logs have ended
  pub all_ended : lane.front ≡ None → AllEnded lanes
  all_ended none k l h = subst (λ o. IsNoLater core o k l.front) none (no_later k l h)

  module _ (r : Record) (front_is : lane.front ≡ Some r) where
    now : IsLaneOf remaining failed before after core lane (log_at merged core)
    now = m.all.lane core lane lane_is

    stage : (lane.fault ≡ None) × FollowsOn core (length before) (remaining now.first) (remaining now.now) lane.log (log_at merged core ++ r ∷ [])
    stage = subst (λ o. IsStage core (length before) (remaining now.first) (remaining now.now) lane.log (log_at merged core) o lane.fault) front_is now.at.stage

    pub faultless : IsFaultless lane.log.log.reader
    faultless = (stage.1.0.bytes, (log_at merged core ++ r ∷ [], stage.1.0.answered))

    pub room : lane.merged < operation_limit
    room = let few = few_answered lane.log.log.reader stage.1.0.bytes (log_at merged core ++ r ∷ []) stage.1.0.answered in omega (arith, few, now.at.count, length_push (log_at merged core) r)

    pub count_is : lane.merged ≡ length (log_at merged core)
    count_is = now.at.count

    pub taken_there : (lane_new : LaneParts) → IsTaken core r lanes (slice_set lanes core lane_new)
    taken_there lane_new = record {
      many = length-set lanes core lane_new;
      front = (lane, lane_is, front_is);
      others = λ k other. set_elsewhere lanes core k lane_new other;
    }

    module _ (source source_new : S) (source_is : slice_get after core ≡ Some source) (lane_new : LaneParts) (clean_new : Bool)
        (advanced : (c cs : ℕ) (b : S) (rs : List Record) (f : Record) → lane.front ≡ Some f → IsLaneAt remaining failed c cs b source lane rs → IsLaneAt remaining failed c cs b source_new lane_new (rs ++ f ∷ []))
        (known_falls : lane_new.falls ≡ None → lane.falls ≡ None)
        (clean_is : (clean_new ≡ true) ↔ ((clean ≡ true) × IsSound lane_new)) where
      abbrev e : Entry
      e = entry_at core (length (log_at merged core)) r

      abbrev lanes_new : List LaneParts
      lanes_new = slice_set lanes core lane_new

      abbrev logs_new : List (List Record)
      logs_new = add merged core r

      here : slice_get lanes_new core ≡ Some lane_new
      here = set_here lanes core lane_new in_lanes

      elsewhere : (k : ℕ) → (k ≡ core → ⊥) → slice_get lanes_new k ≡ slice_get lanes k
      elsewhere k other = set_elsewhere lanes core k lane_new other

      in_logs : core < length merged
      in_logs = omega (arith, m.all.logs, m.all.many, in_lanes)

      logs_here : log_at logs_new core ≡ log_at merged core ++ r ∷ []
      logs_here = add_here merged core r in_logs

      at_new : IsLaneAt remaining failed core (length before) now.first source_new lane_new (log_at merged core ++ r ∷ [])
      at_new = advanced core (length before) now.first (log_at merged core) r front_is
          (subst (λ s. IsLaneAt remaining failed core (length before) now.first s lane (log_at merged core)) (one (slice_get after core) now.now source now.is_now source_is) now.at)

      -- where no log falls or has a fault now, none did before
      none_fell : NoFalls lanes_new → NoFalls lanes
      none_fell h = each_by (λ k l. l.falls ≡ None) lanes core lane lane_is (known_falls (h core lane_new here)) (λ k l other hl. h k l (elsewhere k other ∙ hl))

      sound_before : AreSound lanes_new → AreSound lanes
      sound_before h = each_by (λ k l. IsSound l) lanes core lane lane_is (known_falls (h core lane_new here).0, stage.0) (λ k l other hl. h k l (elsewhere k other ∙ hl))

      lanes_are : AreLanes remaining failed before (slice_set after core source_new) (length before) lanes_new clean_new logs_new
      lanes_are = record {
        readers = length-set after core source_new ∙ m.all.readers;
        some = m.all.some;
        few = m.all.few;
        logs = add_long merged core r ∙ m.all.logs;
        many = length-set lanes core lane_new ∙ m.all.many;
        lane = each_by (λ k l. IsLaneOf remaining failed before (slice_set after core source_new) k l (log_at logs_new k)) lanes_new core lane_new here
            (record { first = now.first; now = source_new; is_first = now.is_first; is_now = set_here after core source_new (slice_get_within after core source source_is); at = rw logs_here at_new })
            (λ k l other hl. (let a = m.all.lane k l (sym (elsewhere k other) ∙ hl) in
            record { first = a.first; now = a.now; is_first = a.is_first; is_now = set_elsewhere after core k source_new other ∙ a.is_now; at = rw (add_other merged core k r other) a.at }));
        clean_is = (
          λ h. each_by (λ k l. IsSound l) lanes_new core lane_new here (clean_is.0 h).1 (λ k l other hl. m.all.clean_is.0 (clean_is.0 h).0 k l (sym (elsewhere k other) ∙ hl)),
          λ h. clean_is.1 (m.all.clean_is.1 (sound_before h), h core lane_new here),
        );
      }

      all_before : NoFalls lanes → (x : Entry) → In x (entries merged) → is_lt (entry_cmp x e) ≡ true
      all_before h x p = m.come_before h x (subst (λ es. In x es) (sym (m.by_key_so_far h)) (In-from_sorted entry_cmp x (entries merged) p)) core lane r lane_is front_is

      -- the record that was taken comes before each front
      taken_before : NoFalls lanes_new → (k : ℕ) (l : LaneParts) → slice_get lanes_new k ≡ Some l → (f : Record) → l.front ≡ Some f → is_lt (entry_cmp e (entry_at k (length (log_at logs_new k)) f)) ≡ true
      taken_before h = each_by (λ k l. (f : Record) → l.front ≡ Some f → is_lt (entry_cmp e (entry_at k (length (log_at logs_new k)) f)) ≡ true) lanes_new core lane_new here
          (λ f hf. (let steady : falls (Some r) (Some f) ≡ false = fall_here_is (log_at merged core) r f lane_new.falls (subst (λ o. IsLeastWhere (is_core_fault ((log_at merged core ++ r ∷ []) ++ front_list o)) lane_new.falls) hf at_new.first_fall) (h core lane_new here) in
          next_after r f core (length (log_at merged core)) (length (log_at logs_new core)) (omega (arith, ap length logs_here, length_push (log_at merged core) r)) steady))
          (λ k l other hl f hf.
          subst (λ o. IsNoLater core o k (Some f)) front_is (subst (λ o. IsNoLater core lane.front k o) hf (no_later k l (sym (elsewhere k other) ∙ hl))) other (length (log_at merged core)) (length (log_at logs_new k)))

      come_before_new : NoFalls lanes_new → ComeBefore (done ++ e ∷ []) lanes_new logs_new
      come_before_new h x p k l f hl hf = elim (In-append x done (e ∷ []) p) [
        | inl old ↦ elim (cases_eq k core) [
          | inl q ↦ lt_trans entry_cmp entry_total x e (entry_at k (length (log_at logs_new k)) f) (m.come_before (none_fell h) x old core lane r lane_is front_is) (taken_before h k l hl f hf)
          | inr q ↦ rw (add_other merged core k r q) (m.come_before (none_fell h) x old k l f (sym (elsewhere k q) ∙ hl) hf)
        ]
        | inr new ↦ elim new [
          | inl same ↦ subst (λ y. is_lt (entry_cmp y (entry_at k (length (log_at logs_new k)) f)) ≡ true) same (taken_before h k l hl f hf)
          | inr nothing ↦ absurd nothing
        ]
      ]

      pub merged_more : IsMerged remaining failed before (slice_set after core source_new) lanes_new clean_new logs_new (done ++ e ∷ [])
      merged_more = record {
        all = lanes_are;
        total = omega (arith, entries_more merged core r in_logs, length_push done e, m.total);
        by_key_so_far = λ h. ap (λ es. es ++ e ∷ []) (m.by_key_so_far (none_fell h)) ∙ sym (by_key_more merged core r in_logs (all_before (none_fell h)));
        come_before = come_before_new;
      }
