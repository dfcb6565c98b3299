-- Orders of first entries that grow by a move.
use Rattle.std.proofs.Common.{ℕ, zero, suc, ◌≡◌, ◌+◌, ◌<◌, ◌≤◌, ◌≢◌, ◌++◌, List, [], ◌∷◌, Option, Some, None, length, take, slice_index_or, Bool, true, false, if◌then◌else◌, ◌==◌, inl, inr, refl, sym, ap, subst, ◌∙◌, arith, append-nil, add-one}
use Rattle.std.specs.Prelude.{slice_get, slice_index, slice_set}
use Rattle.std.proofs.lemmas.List.{get_or-set_same, get_or-set_other, take_all, get_or_past}
use Rattle.std.proofs.lemmas.Bool.Decides.{eqb_tells}
use Rattle.std.proofs.lemmas.Bool.{false≢true, cases_lt}
use Rattle.line_stamps.specs.Messages.{addr_of}
use Rattle.line_stamps.specs.declared.message.Message.{Message}
use Rattle.line_stamps.specs.declared.message.Reply.{Reply}
use Rattle.core_unit.specs.declared.entry.CoreEntry.{CoreEntry}
use Rattle.core_unit.specs.declared.entry.CoreEntry.TheVariants.{Got}
use Rattle.manager_slice.specs.declared.managed.HistoryEntry.{HistoryEntry}
use Rattle.manager_slice.specs.declared.managed.HistoryEntry.TheVariants.{Evicted, Served}
use Rattle.audit.specs.Lists.{history_of, picks, put, transcript_of}
use Rattle.audit.specs.Merges.{AreMoves, HasMerge, IsMove, Move, alone, core_entry, evicts, is_own, of_core, of_slice, passes, slice_entry}
use Rattle.audit.specs.Pairs.{slice_of}
use Rattle.audit.specs.inner.Fronts.{Reached}

put-append : {A : Type 0} (o : Option A) (xs ys : List A) → put o xs ++ ys ≡ put o (xs ++ ys)
put-append None xs ys = refl
put-append (Some x) xs ys = refl

pub picks-append : {A B : Type 0} (f : A → Option B) (xs ys : List A) → picks f (xs ++ ys) ≡ picks f xs ++ picks f ys
picks-append f [] ys = refl
picks-append f (x ∷ xs) ys =
    ap (put (f x)) (picks-append f xs ys) ∙ sym (put-append (f x) (picks f xs) (picks f ys))

pub moves_more : (n : ℕ) (ms : List Move) (m : Move) → AreMoves n ms → IsMove n m → AreMoves n (ms ++ m ∷ [])
moves_more n [] m h k = (k, tt)
moves_more n (x ∷ xs) m h k = (h.0, moves_more n xs m h.1 k)

pub take_grow : {A : Type 0} (T : List A) (k : ℕ) (e : A) → slice_get T k ≡ Some e → take (suc k) T ≡ take k T ++ e ∷ []
take_grow [] k e h = cc
take_grow (x ∷ xs) zero e h = let same : x ≡ e = cc in ap (λ z. z ∷ []) same
take_grow (x ∷ xs) (suc k) e h = ap (λ l. x ∷ l) (take_grow xs k e h)

-- the fronts after one more entry of list c
pub grow : {A : Type 0} (F T : ℕ → List A) (p : List ℕ) (c : ℕ) (e : A) → ((d : ℕ) → F d ≡ take (slice_index p d) (T d)) → c < length p → slice_get (T c) (slice_index p c) ≡ Some e → (d : ℕ) → F d ++ put (if c == d then Some e else None) [] ≡ take (slice_index (slice_set p c (slice_index p c + 1)) d) (T d)
grow F T p c e now lt at d =
    elim (eqb_tells c d) [
      | inl h ↦
          (let P : ℕ → Type 0 = λ x. F x ++ e ∷ [] ≡ take (slice_index (slice_set p c (slice_index p c + 1)) x) (T x) in
          let here : P c = ap (λ l. l ++ e ∷ []) (now c) ∙ (sym (take_grow (T c) (slice_index p c) e at) ∙ ap (λ k. take k (T c)) (sym (get_or-set_same p c (slice_index p c + 1) 0 lt ∙ add-one (slice_index p c)))) in
          rw h.0 (subst P h.1 here))
      | inr h ↦
          (let other : d ≢ c = λ q. h.1 (sym q) in
          rw (h.0, append-nil, now d) (ap (λ k. take k (T d)) (sym (get_or-set_other p c d (slice_index p c + 1) 0 other))))
    ]

-- the fronts after a move that has no entry of these lists
pub stay : {A : Type 0} (F : List A) (T : List A) (k : ℕ) → F ≡ take k T → F ++ [] ≡ take k T
stay F T k h = rw append-nil h

-- core c goes on alone
pub core_alone : (ts : List (List CoreEntry)) (hs : List (List HistoryEntry)) (p q : List ℕ) (c : ℕ) (e : CoreEntry) → Reached ts hs p q → c < length p → slice_get (transcript_of ts c) (slice_index p c) ≡ Some e → is_own e ≡ true → Reached ts hs (slice_set p c (slice_index p c + 1)) q
core_alone ts hs p q c e h lt at own =
    let order = h.order in
    let m : Move = alone c e in record {
      order = order ++ m ∷ [];
      merges = record {
        moves = moves_more (length hs) order m h.merges.moves own;
        cores = λ d. picks-append (core_entry d) order (m ∷ []) ∙ grow (λ x. of_core x order) (transcript_of ts) p c e h.merges.cores lt at d;
        slices = λ s. picks-append (slice_entry s) order (m ∷ []) ∙ stay (of_slice s order) (history_of hs s) (slice_index q s) (h.merges.slices s);
      };
    }

-- slice s evicts
pub slice_evicts : (ts : List (List CoreEntry)) (hs : List (List HistoryEntry)) (p q : List ℕ) (s a : ℕ) → Reached ts hs p q → s < length q → slice_get (history_of hs s) (slice_index q s) ≡ Some (Evicted a) → Reached ts hs p (slice_set q s (slice_index q s + 1))
slice_evicts ts hs p q s a h lt at =
    let order = h.order in
    let m : Move = evicts s a in record {
      order = order ++ m ∷ [];
      merges = record {
        moves = moves_more (length hs) order m h.merges.moves tt;
        cores = λ d. picks-append (core_entry d) order (m ∷ []) ∙ stay (of_core d order) (transcript_of ts d) (slice_index p d) (h.merges.cores d);
        slices = λ t. picks-append (slice_entry t) order (m ∷ []) ∙ grow (λ x. of_slice x order) (history_of hs) q s (Evicted a) h.merges.slices lt at t;
      };
    }

-- slice s serves core c, which gets the reply
pub message_passes : (ts : List (List CoreEntry)) (hs : List (List HistoryEntry)) (p q : List ℕ) (c s : ℕ) (m : Message) (r : Reply) → Reached ts hs p q → c < length p → s < length q → slice_get (transcript_of ts c) (slice_index p c) ≡ Some (Got m r) → slice_get (history_of hs s) (slice_index q s) ≡ Some (Served c m r) → slice_of (length hs) (addr_of m) ≡ s → Reached ts hs (slice_set p c (slice_index p c + 1)) (slice_set q s (slice_index q s + 1))
message_passes ts hs p q c s m r h ltp ltq atp atq right =
    let order = h.order in
    let move : Move = passes c s m r in record {
      order = order ++ move ∷ [];
      merges = record {
        moves = moves_more (length hs) order move h.merges.moves right;
        cores = λ d. picks-append (core_entry d) order (move ∷ []) ∙ grow (λ x. of_core x order) (transcript_of ts) p c (Got m r) h.merges.cores ltp atp d;
        slices = λ t. picks-append (slice_entry t) order (move ∷ []) ∙ grow (λ x. of_slice x order) (history_of hs) q s (Served c m r) h.merges.slices ltq atq t;
      };
    }

abbrev pub all_zero : List ℕ → Bool
all_zero [] = true
all_zero (x ∷ xs) = if x == 0 then all_zero xs else false

pub zeros_at : (xs : List ℕ) → all_zero xs ≡ true → (k : ℕ) → slice_index xs k ≡ 0
zeros_at [] e k = refl
zeros_at (x ∷ xs) e zero = elim (eqb_tells x 0) [
  | inl h ↦ h.1
  | inr h ↦ absurd (false≢true (rw h.0 at e))
]
zeros_at (x ∷ xs) e (suc k) = elim (eqb_tells x 0) [
  | inl h ↦ zeros_at xs (rw h.0 at e) k
  | inr h ↦ absurd (false≢true (rw h.0 at e))
]

-- no entry yet
pub none_yet : (ts : List (List CoreEntry)) (hs : List (List HistoryEntry)) (p q : List ℕ) → all_zero p ≡ true → all_zero q ≡ true → Reached ts hs p q
none_yet ts hs p q zp zq = record {
  order = [];
  merges = record {
    moves = tt;
    cores = λ c. rw (zeros_at p zp c) refl;
    slices = λ s. rw (zeros_at q zq s) refl;
  };
}

-- all entries
pub all_merged : (ts : List (List CoreEntry)) (hs : List (List HistoryEntry)) (p q : List ℕ) → Reached ts hs p q → ((c : ℕ) → length (transcript_of ts c) ≤ slice_index p c) → ((s : ℕ) → length (history_of hs s) ≤ slice_index q s) → HasMerge ts hs
all_merged ts hs p q h full_p full_q = record {
  order = h.order;
  merges = record {
    moves = h.merges.moves;
    cores = λ c. h.merges.cores c ∙ take_all (slice_index p c) (transcript_of ts c) (full_p c);
    slices = λ s. h.merges.slices s ∙ take_all (slice_index q s) (history_of hs s) (full_q s);
  };
}

-- what is past the last core or slice
pub past_all : {A : Type 0} (xs : List (List A)) (n : ℕ) (F : ℕ → ℕ) → length xs ≤ n → ((k : ℕ) → k < n → length (slice_index_or xs k []) ≤ F k) → (k : ℕ) → length (slice_index_or xs k []) ≤ F k
past_all xs n F within h k = elim (cases_lt k n) [
  | inl lt ↦ h k lt
  | inr le ↦ rw (get_or_past xs k [] (omega arith)) (omega arith)
]
