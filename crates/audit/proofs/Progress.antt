-- Fronts within their lists, and where they end.
use Rattle.std.proofs.Common.{ℕ, zero, suc, ◌≡◌, ◌+◌, ◌<◌, ◌≤◌, ◌≢◌, List, [], ◌∷◌, Some, true, length, map, sum, take, get_or, slice_index, slice_index_or, inl, inr, refl, sym, ap, subst, arith}
use Rattle.std.specs.Prelude.{slice_get, slice_set}
use Rattle.std.proofs.Math.ListN.{get_or-map}
use Rattle.std.proofs.lemmas.Bool.{cases_lt}
use Rattle.std.proofs.lemmas.Bool.Decides.{eqb_tells}
use Rattle.std.proofs.lemmas.List.{get_or-set_same, get_or-set_other, get_or_past}
use Rattle.std.proofs.lemmas.List.Sums.{sum_by-cons}
use Rattle.std.proofs.lemmas.Option.{slice_get_within}
use Rattle.audit.proofs.Orders.{all_zero, zeros_at}
use Rattle.audit.proofs.Maximal.{maximal}
use Rattle.line_stamps.specs.Messages.{addr_of}
use Rattle.line_stamps.specs.declared.message.Message.{Message}
use Rattle.line_stamps.specs.declared.message.Reply.{Reply}
use Rattle.core_unit.specs.declared.entry.CoreEntry.{CoreEntry}
use Rattle.core_unit.specs.declared.entry.CoreEntry.TheVariants.{Got}
use Rattle.manager_slice.specs.declared.managed.HistoryEntry.{HistoryEntry}
use Rattle.audit.specs.Lists.{history_of, transcript_of}
use Rattle.audit.specs.Merges.{InFronts, IsFirstUnmerged}
use Rattle.audit.specs.Pairs.{gots, slice_of}
use Rattle.audit.specs.inner.Fronts.{FrontsFit, Reached, Stuck}

fit_more : {A : Type 0} (ts : List (List A)) (p : List ℕ) (c : ℕ) (e : A) → ((d : ℕ) → slice_index p d ≤ length (slice_index_or ts d [])) → c < length p → slice_get (slice_index_or ts c []) (slice_index p c) ≡ Some e → (d : ℕ) → slice_index (slice_set p c (slice_index p c + 1)) d ≤ length (slice_index_or ts d [])
fit_more ts p c e h lt at d = elim (eqb_tells c d) [
  | inl q ↦
      (let P : ℕ → Type 0 = λ x. slice_index (slice_set p c (slice_index p c + 1)) x ≤ length (slice_index_or ts x []) in
      let here : P c = let w = slice_get_within (slice_index_or ts c []) (slice_index p c) e at in let s = get_or-set_same p c (slice_index p c + 1) 0 lt in omega arith in
      subst P q.1 here)
  | inr q ↦ (let s = get_or-set_other p c d (slice_index p c + 1) 0 (λ w. q.1 (sym w)) in let k = h d in omega arith)
]

pub fit_core : (ts : List (List CoreEntry)) (hs : List (List HistoryEntry)) (p q : List ℕ) (c : ℕ) (e : CoreEntry) → FrontsFit ts hs p q → c < length p → slice_get (transcript_of ts c) (slice_index p c) ≡ Some e → FrontsFit ts hs (slice_set p c (slice_index p c + 1)) q
fit_core ts hs p q c e h lt at = record { cores = fit_more ts p c e h.cores lt at; slices = h.slices }

pub fit_slice : (ts : List (List CoreEntry)) (hs : List (List HistoryEntry)) (p q : List ℕ) (s : ℕ) (e : HistoryEntry) → FrontsFit ts hs p q → s < length q → slice_get (history_of hs s) (slice_index q s) ≡ Some e → FrontsFit ts hs p (slice_set q s (slice_index q s + 1))
fit_slice ts hs p q s e h lt at = record { cores = h.cores; slices = fit_more hs q s e h.slices lt at }

pub none_past : {A : Type 0} (ts : List (List A)) (c k : ℕ) (e : A) → length ts ≤ c → slice_get (slice_index_or ts c []) k ≢ Some e
none_past {A} ts c k e le h =
    let P : List A → Type 0 = λ l. slice_get l k ≡ Some e in
    let w : slice_get [] k ≡ Some e = subst P (get_or_past ts c [] le) h in cc

sum_le : (xs ys : List ℕ) → ((k : ℕ) → get_or xs k 0 ≤ get_or ys k 0) → sum xs ≤ sum ys
sum_le [] ys h = omega arith
sum_le (x ∷ xs) [] h = let a = h 0 in let b = sum_le xs [] (λ k. h (suc k)) in let c = sum_by-cons (λ n. n) x xs in omega arith
sum_le (x ∷ xs) (y ∷ ys) h = let a = h 0 in let b = sum_le xs ys (λ k. h (suc k)) in let c = sum_by-cons (λ n. n) x xs in let d = sum_by-cons (λ n. n) y ys in omega arith

pub sum_fits : {A : Type 0} (ts : List (List A)) (p : List ℕ) → ((c : ℕ) → slice_index p c ≤ length (slice_index_or ts c [])) → sum p ≤ sum (map length ts)
sum_fits ts p h = sum_le p (map length ts) (λ k. let a = h k in let b = get_or-map length ts k [] in omega arith)

-- the entries before these fronts are among the first entries of an order
pub in_fronts : (ts : List (List CoreEntry)) (hs : List (List HistoryEntry)) (p q : List ℕ) (c k : ℕ) → Reached ts hs p q → k < slice_index p c → InFronts ts hs c k
in_fronts ts hs p q c k r lt = record { p = λ d. slice_index p d; q = λ s. slice_index q s; order = r.order; merges = r.merges; within = lt }

-- the first core that is left has its next reply got in no order
pub first_unmerged : (ts : List (List CoreEntry)) (hs : List (List HistoryEntry)) (p q : List ℕ) (c : ℕ) (m : Message) (r : Reply) (place : ℕ) → Reached ts hs p q → Stuck ts hs p q → ((d : ℕ) → d < c → length (transcript_of ts d) ≤ slice_index p d) → slice_get (transcript_of ts c) (slice_index p c) ≡ Some (Got m r) → length (gots (length hs) (slice_of (length hs) (addr_of m)) (take (slice_index p c) (transcript_of ts c))) ≡ place → IsFirstUnmerged ts hs c (slice_of (length hs) (addr_of m)) place
first_unmerged ts hs p q c m r place reached stuck full at count =
    let within = slice_get_within (transcript_of ts c) (slice_index p c) (Got m r) at in record {
      at = slice_index p c;
      message = m;
      reply = r;
      got = at;
      slice_is = refl;
      place_is = count;
      out = λ f. let lt = maximal ts hs p q reached stuck c (slice_index p c) within f in absurd (omega arith);
      before = λ k lt. in_fronts ts hs p q c k reached lt;
      earlier = λ d k lt in_d. let le = full d lt in in_fronts ts hs p q d k reached (omega arith);
    }

pub fit_zero : (ts : List (List CoreEntry)) (hs : List (List HistoryEntry)) (p q : List ℕ) → all_zero p ≡ true → all_zero q ≡ true → FrontsFit ts hs p q
fit_zero ts hs p q zp zq = record {
  cores = λ c. let z = zeros_at p zp c in omega arith;
  slices = λ s. let z = zeros_at q zq s in omega arith;
}

pub entry_there : {A : Type 0} (xs : List A) (k : ℕ) → k < length xs → (e : A) × (slice_get xs k ≡ Some e)
entry_there [] k lt = absurd (omega arith)
entry_there (x ∷ xs) zero lt = (x, refl)
entry_there (x ∷ xs) (suc k) lt = entry_there xs k (omega arith)

pub list_there : {A : Type 0} (xs : List (List A)) (s k : ℕ) → k < length (slice_index_or xs s []) → s < length xs
list_there {A} xs s k lt = elim (cases_lt s (length xs)) [
  | inl in_s ↦ in_s
  | inr past ↦ (let none : length (slice_index_or xs s []) ≡ 0 = ap length (get_or_past xs s [] past) in absurd (omega arith))
]
