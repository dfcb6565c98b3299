-- A merge leads the machine on, step by step.
use Rattle.std.proofs.Common.{◌≡◌, ◌≢◌, ℕ, zero, suc, Bool, true, false, cond, length, List, [], ◌∷◌, ◌++◌, inl, inr, refl, sym, ap, subst, ◌∙◌, arith}
use Rattle.std.specs.Prelude.{◌⊎◌, Option, Some, None, map as list_map, replicate, slice_get, slice_set, slice_index_or, ◌==◌, if◌then◌else◌}
use Rattle.std.specs.Cmp.{nat_cmp_total}
use Rattle.std.specs.FinMap as map
use Rattle.std.specs.FinMap.{get-empty, get-insert, get-remove}
use Rattle.std.specs.Ordering.{eq_by_cmp, nat_cmp}
use Rattle.std.proofs.lemmas.Bool.{eq-eqb}
use Rattle.std.proofs.lemmas.Bool.Decides.{eqb_tells}
use Rattle.std.proofs.lemmas.List.{length-map}
use Rattle.lease_rule.specs.ConfigParts.{ConfigParts}
use Rattle.line_stamps.specs.Messages.{addr_of}
use Rattle.line_stamps.specs.declared.message.Message.{Message}
use Rattle.line_stamps.specs.declared.message.Reply.{Reply}
use Rattle.core_program.specs.declared.instruction.Instruction.{Instruction}
use Rattle.manager_slice.specs.Changes.{slice_of}
use Rattle.manager_slice.specs.Leads.{Leads}
use Rattle.manager_slice.specs.Parts.{SliceParts}
use Rattle.manager_slice.specs.Replay.{SliceStep}
use Rattle.manager_slice.specs.Replay as slice
use Rattle.manager_slice.specs.Table.{Slice, Serves, Evicts, evicts as goes_to_memory, takes_written_back, takes_flushed, shares, gives, with_managed, opening as new_slice}
use Rattle.manager_slice.specs.declared.managed.HistoryEntry.{HistoryEntry}
use Rattle.manager_slice.specs.declared.managed.HistoryEntry.TheVariants.{Evicted, Served}
use Rattle.manager_slice.specs.declared.managed.ManagedLine.{ManagedLine}
use Rattle.manager_slice.specs.declared.managed.ManagedLine.TheVariants.{Shared}
use Rattle.core_unit.specs.Core.{Core, new_core}
use Rattle.core_unit.specs.Parts.{UnitParts, core_of, give_back_in, replayed}
use Rattle.core_unit.specs.Replay.{CoreStep, CoreLeads, CoreReplays}
use Rattle.core_unit.specs.declared.entry.CoreEntry.TheVariants.{Got}
use Rattle.core_machine.specs.Machine.{World, Run, start, next, by_core, spills, with_core, slice_number, opening}
use Rattle.core_machine.specs.declared.event.Event.{Event}
use Rattle.core_machine.specs.declared.event.Event.TheVariants as event
use Rattle.core_unit.specs.declared.outcome.Outcome.TheVariants.{Spilled}
use Rattle.core_machine.proofs.Appended.{run-append}
use Rattle.audit.specs.Lists.{put, transcripts, histories}
use Rattle.audit.specs.Merges.{Move, alone, evicts, passes, AreMoves, IsMerge, of_core, of_slice}
use Rattle.audit.specs.Events.{AreEvents, AreReadOff, none, more, IsRunOf, AreOneMachine, MergesAreRuns, WholeRunsAreRuns, world_of}
use Rattle.audit.specs.Events as read
use Rattle.audit.specs.Runs.{IsRun}
use Rattle.audit.proofs.Account.{own_event, pass_events, set_found}

-- ---- lists

same_items : {X : Type 0} (xs ys : List X) → ((k : ℕ) → slice_get xs k ≡ slice_get ys k) → xs ≡ ys
same_items [] [] h = refl
same_items [] (y ∷ ys) h = (let e : None ≡ Some y = h 0 in absurd cc)
same_items (x ∷ xs) [] h = (let e : Some x ≡ None = h 0 in absurd cc)
same_items (x ∷ xs) (y ∷ ys) h =
    let e : Some x ≡ Some y = h 0 in
    let here : x ≡ y = cc in
    ap (λ z. z ∷ xs) here ∙ ap (λ zs. y ∷ zs) (same_items xs ys (λ k. h (suc k)))

other_stays : {X : Type 0} (xs : List X) (i k : ℕ) (x : X) → i ≢ k → slice_get (slice_set xs i x) k ≡ slice_get xs k
other_stays [] i k x n = refl
other_stays (y ∷ ys) zero zero x n = absurd (n refl)
other_stays (y ∷ ys) zero (suc k) x n = refl
other_stays (y ∷ ys) (suc i) zero x n = refl
other_stays (y ∷ ys) (suc i) (suc k) x n = other_stays ys i k x (λ e. n (ap suc e))

same_map : {X Y : Type 0} (f h : X → Y) (xs : List X) → ((k : ℕ) (x : X) → slice_get xs k ≡ Some x → f x ≡ h x) → list_map f xs ≡ list_map h xs
same_map f h [] same = refl
same_map f h (x ∷ xs) same =
    ap (λ y. y ∷ list_map f xs) (same 0 x refl) ∙ ap (λ ys. h x ∷ ys) (same_map f h xs (λ k y e. same (suc k) y e))

twice_mapped : {X Y Z : Type 0} (f : Y → Z) (h : X → Y) (xs : List X) → list_map f (list_map h xs) ≡ list_map (λ x. f (h x)) xs
twice_mapped f h [] = refl
twice_mapped f h (x ∷ xs) = ap (λ ys. f (h x) ∷ ys) (twice_mapped f h xs)

each_the_same : {X Y : Type 0} (y : Y) (xs : List X) → list_map (λ _. y) xs ≡ replicate (length xs) y
each_the_same y [] = refl
each_the_same y (x ∷ xs) = ap (λ ys. y ∷ ys) (each_the_same y xs)

read_from : {X Y : Type 0} (f : X → Y) (xs : List X) (ys : List Y) → length xs ≡ length ys → ((k : ℕ) (x : X) → slice_get xs k ≡ Some x → slice_get ys k ≡ Some (f x)) → list_map f xs ≡ ys
read_from f [] [] l h = refl
read_from f [] (y ∷ ys) l h = absurd (omega (arith, l))
read_from f (x ∷ xs) [] l h = absurd (omega (arith, l))
read_from f (x ∷ xs) (y ∷ ys) l h =
    let e : Some y ≡ Some (f x) = h 0 x refl in
    let here : f x ≡ y = cc in
    let rest : length xs ≡ length ys = omega (arith, l) in
    ap (λ z. z ∷ list_map f xs) here ∙ ap (λ zs. y ∷ zs) (read_from f xs ys rest (λ k z at. h (suc k) z at))

-- ---- what is still to come

-- these entries lead what stands here, and fits, to what is to stand here; where nothing stands there are none
abbrev pub Aim : {S E : Type 0} → (S → Type 0) → (S → E → S → Type 0) → Option S → List E → Option S → Type 0
Aim fits step None es o = (es ≡ []) × (o ≡ None)
Aim {S} fits step (Some s) es o = (t : S) × (o ≡ Some t) × fits s × Leads step s es t

there_already : {S E : Type 0} (fits : S → Type 0) (step : S → E → S → Type 0) (o p : Option S) → Aim fits step o [] p → o ≡ p
there_already fits step None p h = sym h.1
there_already fits step (Some s) p h = ap (λ x. Some x) (sym h.3) ∙ sym h.1

-- one entry on at place n
record OneOn {S E : Type 0} (fits : ℕ → S → Type 0) (step : ℕ → S → E → S → Type 0) (xs ys : List S) (rest : ℕ → List E) (n : ℕ) (e : E) : Type 0 where
  from : S
  to : S
  there : slice_get xs n ≡ Some from
  fitting : fits n from
  goes : step n from e to
  later : fits n to → (k : ℕ) → Aim (fits k) (step k) (slice_get (slice_set xs n to) k) (rest k) (slice_get ys k)

module _ {S E : Type 0} (fits : ℕ → S → Type 0) (step : ℕ → S → E → S → Type 0) (xs ys : List S) (rest : ℕ → List E) (n : ℕ) (e : E)
    (aims : (k : ℕ) → Aim (fits k) (step k) (slice_get xs k) (put (if n == k then Some e else None) (rest k)) (slice_get ys k)) where
  later_on : (s t u : S) → slice_get xs n ≡ Some s → slice_get ys n ≡ Some u → Leads (step n) t (rest n) u → fits n t
      → (k : ℕ) → Aim (fits k) (step k) (slice_get (slice_set xs n t) k) (rest k) (slice_get ys k)
  later_on s t u there is leads fit k = elim (eqb_tells n k) [
    | inl h ↦
        (let P : ℕ → Type 0 = λ i. Aim (fits i) (step i) (slice_get (slice_set xs n t) i) (rest i) (slice_get ys i) in
        let Q : Option S → Type 0 = λ o. Aim (fits n) (step n) o (rest n) (slice_get ys n) in
        let found : slice_get (slice_set xs n t) n ≡ Some t = set_found xs n s t there in
        let now : Q (Some t) = (u, is, fit, leads) in
        let here : P n = subst Q (sym found) now in
        subst P h.1 here)
    | inr h ↦
        (let P : Bool → Type 0 = λ b. Aim (fits k) (step k) (slice_get xs k) (put (if b then Some e else None) (rest k)) (slice_get ys k) in
        let Q : Option S → Type 0 = λ o. Aim (fits k) (step k) o (rest k) (slice_get ys k) in
        let was : P false = subst P h.0 (aims k) in
        subst Q (sym (other_stays xs n k t h.1)) was)
  ]

  by_found : (o : Option S) → slice_get xs n ≡ o → Aim (fits n) (step n) o (e ∷ rest n) (slice_get ys n) → OneOn fits step xs ys rest n e
  by_found None there h = (let no : e ∷ rest n ≡ [] = h.0 in absurd cc)
  by_found (Some s) there h =
      let leads : Leads (step n) s (e ∷ rest n) h.0 = h.3 in record {
        from = s;
        to = leads.0;
        there = there;
        fitting = h.2;
        goes = leads.1;
        later = later_on s leads.0 h.0 there h.1 leads.2;
      }

  one_on : OneOn fits step xs ys rest n e
  one_on =
      let P : Bool → Type 0 = λ b. Aim (fits n) (step n) (slice_get xs n) (put (if b then Some e else None) (rest n)) (slice_get ys n) in
      let here : P true = subst P (eq-eqb n n refl) (aims n) in
      by_found (slice_get xs n) refl here

-- ---- cores and slices between steps

-- no reply is kept
abbrev IsFree : ℕ → Core → Type 0
IsFree c u = u.kept ≡ None

-- each line of the slice is of an address of its own
abbrev IsHome : ConfigParts → ℕ → Slice → Type 0
IsHome g n s = (a : ℕ) (x : ManagedLine) → map.get s.lines a ≡ Some x → slice_number g a ≡ n

abbrev SliceSteps : ConfigParts → ℕ → Slice → HistoryEntry → Slice → Type 0
SliceSteps g n = SliceStep g

record Aims (g : ConfigParts) (w v : World) (order : List Move) : Type 0 where
  moves : AreMoves g.slices order
  cores : (c : ℕ) → Aim (IsFree c) (CoreStep g c) (slice_get w.cores c) (of_core c order) (slice_get v.cores c)
  slices : (n : ℕ) → Aim (IsHome g n) (SliceSteps g n) (slice_get w.slices n) (of_slice n order) (slice_get v.slices n)

home_with : (g : ConfigParts) (n : ℕ) (s : Slice) (a : ℕ) (x : ManagedLine) → slice_number g a ≡ n → IsHome g n s → IsHome g n (with_managed s a x)
home_with g n s a x at home b y found = by_place (a == b) (eqb_tells a b)
  where
    by_place : (t : Bool) → ((t ≡ true) × (a ≡ b)) ⊎ ((t ≡ false) × (a ≢ b)) → slice_number g b ≡ n
    by_place t (inl h) = subst (λ (i : ℕ). slice_number g i ≡ n) h.1 at
    by_place t (inr h) =
        let other : eq_by_cmp nat_cmp b a ≡ false = (let different : a ≢ b = h.1 in grind arith) in
        home b y (sym (get-insert nat_cmp_total s.lines a x b ∙ rw other refl) ∙ found)

home_served : (g : ConfigParts) (n : ℕ) (s : Slice) (c : ℕ) (m : Message) (r : Reply) (t : Slice) → slice_number g (addr_of m) ≡ n → IsHome g n s → Serves g s c m r t → IsHome g n t
home_served g n s c m r t at home (takes_written_back a l owned) = home_with g n s a _ at home
home_served g n s c m r t at home (takes_flushed a l owned) = home_with g n s a _ at home
home_served g n s c m r t at home (shares a copy pts l met room) = home_with g n s a _ at home
home_served g n s c m r t at home (gives a copy l met room) = home_with g n s a _ at home

home_evicted : (g : ConfigParts) (n : ℕ) (s : Slice) (a : ℕ) (t : Slice) → IsHome g n s → Evicts s a t → IsHome g n t
home_evicted g n s a t home (goes_to_memory l there) b y found =
    home b y (still (eq_by_cmp nat_cmp b a) (sym (get-remove nat_cmp_total s.lines a b) ∙ found))
  where
    still : (q : Bool) → cond q None (map.get s.lines b) ≡ Some y → map.get s.lines b ≡ Some y
    still true e = absurd cc
    still false e = e

-- what a slice evicts is at home there
evicted_home : (g : ConfigParts) (n : ℕ) (s : Slice) (a : ℕ) (t : Slice) → IsHome g n s → Evicts s a t → slice_number g a ≡ n
evicted_home g n s a t home (goes_to_memory l there) = home a (Shared l) there

-- ---- orders, step by step

used_up : (g : ConfigParts) (w v : World) → Aims g w v [] → Run g w [] v
used_up g w v h =
    let cores = same_items w.cores v.cores (λ c. there_already (IsFree c) (CoreStep g c) _ _ (h.cores c)) in
    let slices = same_items w.slices v.slices (λ n. there_already (IsHome g n) (SliceSteps g n) _ _ (h.slices n)) in
    let world : w ≡ v = ap (λ (l : List Core). record { cores = l; slices = w.slices }) cores ∙ ap (λ (l : List Slice). record { cores = v.cores; slices = l }) slices in
    subst (λ (x : World). Run g w [] x) world start

then_on : (g : ConfigParts) (w z v : World) (m : Move) (ms : List Move) (es : List Event) → AreEvents m es → Run g w es z → IsRunOf g z ms v → IsRunOf g w (m ∷ ms) v
then_on g w z v m ms es are run on = record {
  events = es ++ on.events;
  read_off = more m ms es on.events are on.read_off;
  run = run-append g w es z run on.events v on.run;
}

gather : (g : ConfigParts) (order : List Move) (w v : World) → Aims g w v order → IsRunOf g w order v
gather g [] w v h = record { events = []; read_off = none; run = used_up g w v h }
gather g (alone c e ∷ ms) w v h =
    let one = one_on IsFree (CoreStep g) w.cores v.cores (λ d. of_core d ms) c e h.cores in
    let own = own_event g c one.from e one.to h.moves.0 one.goes one.fitting in
    let z = with_core w c one.to in
    then_on g w z v (alone c e) ms (own.event ∷ []) own.read_off
    (next [] own.event own.outcome w z start (by_core c own.event own.outcome one.from one.to one.there own.leads))
    (gather g ms z v (record { moves = h.moves.1; cores = one.later own.free; slices = h.slices }))
gather g (evicts s a ∷ ms) w v h =
    let one = one_on (IsHome g) (SliceSteps g) w.slices v.slices (λ n. of_slice n ms) s (Evicted a) h.slices in
    let home : slice_number g a ≡ s = evicted_home g s one.from a one.to one.fitting one.goes in
    let z : World = record { cores = w.cores; slices = slice_set w.slices s one.to } in
    let there : slice_get w.slices (slice_number g a) ≡ Some one.from = subst (λ (n : ℕ). slice_get w.slices n ≡ Some one.from) (sym home) one.there in
    let P : ℕ → Type 0 = λ n. Run g w (event.Spill a ∷ []) (record { cores = w.cores; slices = slice_set w.slices n one.to }) in
    let run : P (slice_number g a) = next [] (event.Spill a) Spilled w _ start (spills a one.from one.to there one.goes) in
    then_on g w z v (evicts s a) ms (event.Spill a ∷ []) (read.spills s a) (subst P home run)
    (gather g ms z v (record { moves = h.moves.1; cores = h.cores; slices = one.later (home_evicted g s one.from a one.to one.fitting one.goes) }))
gather g (passes c s m r ∷ ms) w v h =
    let one = one_on IsFree (CoreStep g) w.cores v.cores (λ d. of_core d ms) c (Got m r) h.cores in
    let two = one_on (IsHome g) (SliceSteps g) w.slices v.slices (λ n. of_slice n ms) s (Served c m r) h.slices in
    let home : slice_number g (addr_of m) ≡ s = h.moves.0 in
    let there : slice_get w.slices (slice_number g (addr_of m)) ≡ Some two.from = subst (λ (n : ℕ). slice_get w.slices n ≡ Some two.from) (sym home) two.there in
    let pass = pass_events g w c s one.from two.from two.to one.there m r there two.goes (Got m r) one.to one.goes refl one.fitting in
    let z : World = record { cores = slice_set w.cores c one.to; slices = slice_set w.slices s two.to } in
    let P : ℕ → Type 0 = λ n. Run g w pass.events (record { cores = slice_set w.cores c one.to; slices = slice_set w.slices n two.to }) in
    then_on g w z v (passes c s m r) ms pass.events pass.read_off (subst P home pass.run)
    (gather g ms z v (record { moves = h.moves.1; cores = one.later pass.free; slices = two.later (home_served g s two.from c m r two.to home two.fitting two.goes) }))

-- ---- from the start

-- what stands at a place of a list, before and after its own entries
aim_at : {X S E : Type 0} (fits : S → Type 0) (step : S → E → S → Type 0) (before after : X → S) (entries : X → List E) (xs : List X) (n : ℕ) (es : List E)
    → es ≡ slice_index_or (list_map entries xs) n [] → ((x : X) → slice_get xs n ≡ Some x → fits (before x) × Leads step (before x) (entries x) (after x))
    → Aim fits step (slice_get (list_map before xs) n) es (slice_get (list_map after xs) n)
aim_at fits step before after entries [] n es is h = (is, refl)
aim_at fits step before after entries (x ∷ xs) zero es is h =
    let at = h x refl in
    (after x, refl, at.0, subst (λ l. Leads step (before x) l (after x)) (sym is) at.1)
aim_at fits step before after entries (x ∷ xs) (suc n) es is h = aim_at fits step before after entries xs n es is h

module _ (g : ConfigParts) (us : List UnitParts) (ss : List SliceParts) (order : List Move) (are : AreOneMachine g us ss) (merge : IsMerge (transcripts us) (histories ss) order) where
  core_aim : (c : ℕ) → Aim (IsFree c) (CoreStep g c) (slice_get (list_map (λ u. new_core u.program) us) c) (of_core c order) (slice_get (list_map replayed us) c)
  core_aim c = aim_at (IsFree c) (CoreStep g c) (λ u. new_core u.program) replayed (λ u. u.transcript) us c (of_core c order) (merge.cores c) (λ u at. (refl, replay u at))
    where
      replay : (u : UnitParts) → slice_get us c ≡ Some u → CoreLeads g c (new_core u.program) u.transcript (replayed u)
      replay u at =
          let kept : CoreReplays u.config u.core u.program u.transcript (replayed u) = (are.unit c u at).replay in
          let P : ConfigParts → Type 0 = λ x. CoreReplays x u.core u.program u.transcript (replayed u) in
          let Q : ℕ → Type 0 = λ d. CoreReplays g d u.program u.transcript (replayed u) in
          subst Q (are.core c u at) (subst P (are.config c u at) kept)

  slice_aim : (n : ℕ) → Aim (IsHome g n) (SliceSteps g n) (slice_get (list_map (λ _. new_slice) ss) n) (of_slice n order) (slice_get (list_map (λ s. slice_of s.state) ss) n)
  slice_aim n = aim_at (IsHome g n) (SliceSteps g n) (λ _. new_slice) (λ s. slice_of s.state) (λ s. s.history) ss n (of_slice n order) (merge.slices n) (λ s at. (empty, replay s at))
    where
      empty : IsHome g n new_slice
      empty a x found = (let no : map.get (new_slice).lines a ≡ None = get-empty nat_cmp a in absurd cc)

      replay : (s : SliceParts) → slice_get ss n ≡ Some s → slice.SliceLeads g new_slice s.history (slice_of s.state)
      replay s at =
          let P : ConfigParts → Type 0 = λ x. slice.SliceLeads x new_slice s.history (slice_of s.state) in
          subst P (are.slice_config n s at) (are.slice n s at)

  aims_at_start : Aims g (opening (list_map (λ u. u.program) us) g.slices) (world_of (list_map replayed us) ss) order
  aims_at_start =
      let cores = twice_mapped new_core (λ (u : UnitParts). u.program) us in
      let slices : list_map (λ _. new_slice) ss ≡ replicate g.slices new_slice = each_the_same new_slice ss ∙ ap (λ (k : ℕ). replicate k new_slice) are.count in
      let count : length (histories ss) ≡ g.slices = length-map ss (λ (s : SliceParts). s.history) ∙ are.count in
      record {
        moves = subst (λ (k : ℕ). AreMoves k order) count merge.moves;
        cores = λ c.
            let P : List Core → Type 0 = λ l. Aim (IsFree c) (CoreStep g c) (slice_get l c) (of_core c order) (slice_get (list_map replayed us) c) in
            subst P (sym cores) (core_aim c);
        slices = λ n.
            let P : List Slice → Type 0 = λ l. Aim (IsHome g n) (SliceSteps g n) (slice_get l n) (of_slice n order) (slice_get (list_map (λ s. slice_of s.state) ss) n) in
            subst P slices (slice_aim n);
      }

pub merges_run : MergesAreRuns
merges_run g us ss order are merge = gather g order _ _ (aims_at_start g us ss order are merge)

-- ---- whole runs

whole_machine : (programs : List (List Instruction)) (g : ConfigParts) (us : List UnitParts) (ss : List SliceParts) → IsRun programs g us ss → AreOneMachine g us ss
whole_machine programs g us ss run = record {
  count = run.count;
  core = λ c u at. (run.units c u at).core;
  config = λ c u at. (run.units c u at).config;
  unit = λ c u at. (run.units c u at).replays;
  slice_config = λ n s at. (run.slices n s at).config;
  slice = λ n s at. (run.slices n s at).replays;
}

empty_handed : (u : UnitParts) → u.hand ≡ None → replayed u ≡ core_of u None
empty_handed u empty =
    ap (λ h. record (core_of u None) { hand = give_back_in h }) empty ∙ sym (ap (λ h. record (core_of u None) { hand = h }) empty)

pub whole_runs_run : WholeRunsAreRuns
whole_runs_run programs g us ss order run merge =
    let as_kept = same_map replayed (λ u. core_of u None) us (λ c u at. empty_handed u (run.units c u at).hand) in
    let same_programs = read_from (λ u. u.program) us programs run.cores (λ c u at. (run.units c u at).program) in
    let P : List Core → Type 0 = λ cores. IsRunOf g (opening (list_map (λ u. u.program) us) g.slices) order (world_of cores ss) in
    let Q : List (List Instruction) → Type 0 = λ ps. IsRunOf g (opening ps g.slices) order (world_of (list_map (λ u. core_of u None) us) ss) in
    subst Q same_programs (subst P as_kept (merges_run g us ss order (whole_machine programs g us ss run) merge))
