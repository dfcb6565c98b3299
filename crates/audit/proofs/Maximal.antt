-- Where no list can go on, every other order of first entries is shorter.
use Rattle.std.proofs.Common.{ℕ, zero, suc, ◌≡◌, ◌+◌, ◌-◌, ◌<◌, ◌≤◌, ◌++◌, Bool, true, false, List, [], ◌∷◌, Option, Some, None, length, take, drop, get_or, slice_index, if◌then◌else◌, ◌==◌, inl, inr, refl, sym, ap, subst, ◌∙◌, arith, append_assoc, append-nil, add-zero, length-append, length-take}
use Rattle.std.specs.Prelude.{slice_get}
use Rattle.std.proofs.Math.Seq.{take-add}
use Rattle.std.proofs.lemmas.Option.{slice_get_within}
use Rattle.std.proofs.lemmas.List.{take_more, take_all}
use Rattle.std.proofs.lemmas.Bool.{cases_lt, eq-eqb, false≢true}
use Rattle.std.specs.Option.{option_map_or}
use Rattle.std.proofs.lemmas.Bool.Decides.{eqb_tells}
use Rattle.line_stamps.specs.Messages.{addr_of}
use Rattle.line_stamps.specs.declared.message.Message.{Message}
use Rattle.line_stamps.specs.declared.message.Reply.{Reply}
use Rattle.core_unit.specs.declared.entry.CoreEntry.{CoreEntry}
use Rattle.core_unit.specs.declared.entry.CoreEntry.TheVariants.{Performed, Dropped, Gave, Got, Bumped}
use Rattle.manager_slice.specs.declared.managed.HistoryEntry.{HistoryEntry}
use Rattle.manager_slice.specs.declared.managed.HistoryEntry.TheVariants.{Evicted, Served}
use Rattle.audit.proofs.Orders.{picks-append, take_grow}
use Rattle.audit.specs.Lists.{history_of, picks, put, transcript_of}
use Rattle.audit.specs.Merges.{HasMerge, AreMoves, InFronts, IsMove, Merges, Move, alone, core_entry, evicts, is_own, of_core, of_slice, passes, slice_entry}
use Rattle.audit.specs.Pairs.{Agrees, got_at, gots, served_at, serveds, slice_of}
use Rattle.audit.specs.inner.Fronts.{Reached, Stuck, goes_alone}

-- the same where a message passes
pass_agrees : (n c s d t : ℕ) (m : Message) (r : Reply) (xs : List HistoryEntry) (ys : List CoreEntry) → slice_of n (addr_of m) ≡ t → serveds c xs ≡ gots n s ys → serveds c (put (if t == s then Some (Served d m r) else None) xs) ≡ gots n s (put (if d == c then Some (Got m r) else None) ys)
pass_agrees n c s d t m r xs ys right rest = elim (eqb_tells t s) [
  | inl q ↦ elim (eqb_tells d c) [
    | inl w ↦ rw (q.0, w.0) (rw (right, q.0) (ap (λ l. (m, r) ∷ l) rest))
    | inr w ↦ rw (q.0, w.0) rest
  ]
  | inr q ↦ elim (eqb_tells d c) [
    | inl w ↦ rw (q.0, w.0) (rw (right, q.0) rest)
    | inr w ↦ rw (q.0, w.0) rest
  ]
]

-- an entry of a core's own is no reply
own_no_got : (n s : ℕ) (e : CoreEntry) → is_own e ≡ true → got_at n s e ≡ None
own_no_got n s Performed h = refl
own_no_got n s (Dropped a) h = refl
own_no_got n s (Gave m) h = refl
own_no_got n s (Got m r) h = absurd cc
own_no_got n s Bumped h = refl

-- in an order, what slice s served core c is what core c got of slice s
pub agree_in_order : (n c s : ℕ) (ms : List Move) → AreMoves n ms → serveds c (of_slice s ms) ≡ gots n s (of_core c ms)
agree_in_order n c s [] h = refl
agree_in_order n c s (alone d e ∷ ms) h =
    let rest = agree_in_order n c s ms h.1 in
    let P : Bool → Type 0 = λ b. serveds c (of_slice s ms) ≡ gots n s (put (if b then Some e else None) (of_core c ms)) in
    let own : gots n s (e ∷ of_core c ms) ≡ gots n s (of_core c ms) = ap (λ o. put o (gots n s (of_core c ms))) (own_no_got n s e h.0) in
    elim (eqb_tells d c) [ inl q ↦ subst P (sym q.0) (rest ∙ sym own) | inr q ↦ subst P (sym q.0) rest ]
agree_in_order n c s (evicts t a ∷ ms) h =
    let rest = agree_in_order n c s ms h.1 in
    let P : Bool → Type 0 = λ b. serveds c (put (if b then Some (Evicted a) else None) (of_slice s ms)) ≡ gots n s (of_core c ms) in
    elim (eqb_tells t s) [ inl q ↦ subst P (sym q.0) rest | inr q ↦ subst P (sym q.0) rest ]
agree_in_order n c s (passes d t m r ∷ ms) h =
    let rest = agree_in_order n c s ms h.1 in
    pass_agrees n c s d t m r (of_slice s ms) (of_core c ms) h.0 rest

-- what comes first in the first entries of a list comes first in the list
pub prefix_of : {A : Type 0} (T : List A) (n : ℕ) (xs : List A) (e : A) (ys : List A) → take n T ≡ xs ++ e ∷ ys → (xs ≡ take (length xs) T) × (slice_get T (length xs) ≡ Some e)
prefix_of [] zero [] e ys h = cc
prefix_of [] (suc n) [] e ys h = cc
prefix_of [] zero (x ∷ xs) e ys h = cc
prefix_of [] (suc n) (x ∷ xs) e ys h = cc
prefix_of (t ∷ ts) zero [] e ys h = cc
prefix_of (t ∷ ts) zero (x ∷ xs) e ys h = cc
prefix_of (t ∷ ts) (suc n) [] e ys h = let q : t ≡ e = cc in (refl, ap Some q)
prefix_of (t ∷ ts) (suc n) (x ∷ xs) e ys h =
    let q : t ≡ x = cc in
    let w : take n ts ≡ xs ++ e ∷ ys = cc in
    let rec = prefix_of ts n xs e ys w in
    (ap (λ l. x ∷ l) rec.0 ∙ ap (λ y. y ∷ take (length xs) ts) (sym q), rec.1)

-- more entries, no fewer picks
pub picks_more : {A B : Type 0} (f : A → Option B) (T : List A) (i j : ℕ) → i ≤ j → length (picks f (take i T)) ≤ length (picks f (take j T))
picks_more f T i j le =
    let d = j - i in
    let e : i + d ≡ j = omega arith in
    let split = ap (picks f) (take-add i d T) ∙ picks-append f (take i T) (take d (drop i T)) in
    let whole = ap (λ k. length (picks f (take k T))) e in
    let sum = ap length split ∙ length-append (picks f (take i T)) (picks f (take d (drop i T))) in
    omega (arith, whole, sum)

-- an entry that is picked adds one
pub picks_grow : {A B : Type 0} (f : A → Option B) (T : List A) (i : ℕ) (e : A) (b : B) → slice_get T i ≡ Some e → f e ≡ Some b → length (picks f (take (suc i) T)) ≡ length (picks f (take i T)) + 1
picks_grow f T i e b at is =
    ap (λ l. length (picks f l)) (take_grow T i e at) ∙ (ap length (picks-append f (take i T) (e ∷ [])) ∙ (length-append (picks f (take i T)) (picks f (e ∷ [])) ∙ ap (λ o. length (picks f (take i T)) + length (put o [])) is))

-- at most as far as these fronts
record Ahead (p q : List ℕ) (ms : List Move) : Type 0 where
  cores : (c : ℕ) → length (of_core c ms) ≤ slice_index p c
  slices : (s : ℕ) → length (of_slice s ms) ≤ slice_index q s

-- one more entry of list c at most
one_more : {A B : Type 0} (f : A → Option B) (ms : List A) (m : A) (b : B) → f m ≡ Some b → length (picks f (ms ++ m ∷ [])) ≡ length (picks f ms) + 1
one_more f ms m b is =
    ap length (picks-append f ms (m ∷ [])) ∙ (length-append (picks f ms) (picks f (m ∷ [])) ∙ ap (λ o. length (picks f ms) + length (put o [])) is)

none_more : {A B : Type 0} (f : A → Option B) (ms : List A) (m : A) → f m ≡ None → length (picks f (ms ++ m ∷ [])) ≡ length (picks f ms)
none_more f ms m is =
    ap length (picks-append f ms (m ∷ [])) ∙ (length-append (picks f ms) (picks f (m ∷ [])) ∙ (ap (λ o. length (picks f ms) + length (put o [])) is ∙ add-zero (length (picks f ms))))

-- where entry m of an order is one of list T
entry_here : {A B : Type 0} (f : A → Option B) (T : List B) (n : ℕ) (pre : List A) (m : A) (post : List A) (b : B) → f m ≡ Some b → picks f (pre ++ m ∷ post) ≡ take n T → (picks f pre ≡ take (length (picks f pre)) T) × (slice_get T (length (picks f pre)) ≡ Some b)
entry_here f T n pre m post b is e =
    prefix_of T n (picks f pre) b (picks f post) (sym e ∙ (picks-append f pre (m ∷ post) ∙ ap (λ o. picks f pre ++ put o (picks f post)) is))

same_core : (c : ℕ) (e : CoreEntry) → core_entry c (alone c e) ≡ Some e
same_core c e = rw (eq-eqb c c refl) refl

same_passes : (c s : ℕ) (m : Message) (r : Reply) → (core_entry c (passes c s m r) ≡ Some (Got m r)) × (slice_entry s (passes c s m r) ≡ Some (Served c m r))
same_passes c s m r = (rw (eq-eqb c c refl) refl, rw (eq-eqb s s refl) refl)

same_evicts : (s a : ℕ) → slice_entry s (evicts s a) ≡ Some (Evicted a)
same_evicts s a = rw (eq-eqb s s refl) refl

-- one more move stays behind, if its own core and its own slice do
stays_alone : (p q : List ℕ) (pre : List Move) (c : ℕ) (e : CoreEntry) → Ahead p q pre → length (of_core c pre) < slice_index p c → Ahead p q (pre ++ alone c e ∷ [])
stays_alone p q pre c e h lt = record {
  cores = λ d. elim (eqb_tells c d) [
    | inl w ↦ (let P : ℕ → Type 0 = λ x. length (of_core x (pre ++ alone c e ∷ [])) ≤ slice_index p x in
        let here : P c = let k = one_more (core_entry c) pre (alone c e) e (same_core c e) in omega arith in subst P w.1 here)
    | inr w ↦ (let k = none_more (core_entry d) pre (alone c e) (rw w.0 refl) in let l = h.cores d in omega arith)
  ];
  slices = λ s. let k = none_more (slice_entry s) pre (alone c e) refl in let l = h.slices s in omega arith;
}

stays_evicts : (p q : List ℕ) (pre : List Move) (s a : ℕ) → Ahead p q pre → length (of_slice s pre) < slice_index q s → Ahead p q (pre ++ evicts s a ∷ [])
stays_evicts p q pre s a h lt = record {
  cores = λ c. let k = none_more (core_entry c) pre (evicts s a) refl in let l = h.cores c in omega arith;
  slices = λ d. elim (eqb_tells s d) [
    | inl w ↦ (let P : ℕ → Type 0 = λ x. length (of_slice x (pre ++ evicts s a ∷ [])) ≤ slice_index q x in
        let here : P s = let k = one_more (slice_entry s) pre (evicts s a) (Evicted a) (same_evicts s a) in omega arith in subst P w.1 here)
    | inr w ↦ (let k = none_more (slice_entry d) pre (evicts s a) (rw w.0 refl) in let l = h.slices d in omega arith)
  ];
}

stays_passes : (p q : List ℕ) (pre : List Move) (c s : ℕ) (m : Message) (r : Reply) → Ahead p q pre → length (of_core c pre) < slice_index p c → length (of_slice s pre) < slice_index q s → Ahead p q (pre ++ passes c s m r ∷ [])
stays_passes p q pre c s m r h ltp ltq = record {
  cores = λ d. elim (eqb_tells c d) [
    | inl w ↦ (let P : ℕ → Type 0 = λ x. length (of_core x (pre ++ passes c s m r ∷ [])) ≤ slice_index p x in
        let here : P c = let k = one_more (core_entry c) pre (passes c s m r) (Got m r) (same_passes c s m r).0 in omega arith in subst P w.1 here)
    | inr w ↦ (let k = none_more (core_entry d) pre (passes c s m r) (rw w.0 refl) in let l = h.cores d in omega arith)
  ];
  slices = λ d. elim (eqb_tells s d) [
    | inl w ↦ (let P : ℕ → Type 0 = λ x. length (of_slice x (pre ++ passes c s m r ∷ [])) ≤ slice_index q x in
        let here : P s = let k = one_more (slice_entry s) pre (passes c s m r) (Served c m r) (same_passes c s m r).1 in omega arith in subst P w.1 here)
    | inr w ↦ (let k = none_more (slice_entry d) pre (passes c s m r) (rw w.0 refl) in let l = h.slices d in omega arith)
  ];
}

moves_at : (n : ℕ) (pre : List Move) (m : Move) (post : List Move) → AreMoves n (pre ++ m ∷ post) → AreMoves n pre × IsMove n m
moves_at n [] m post h = (tt, h.0)
moves_at n (x ∷ xs) m post h = let rec = moves_at n xs m post h.1 in ((h.0, rec.0), rec.1)

pub alone_there : (T : List CoreEntry) (k : ℕ) (e : CoreEntry) → slice_get T k ≡ Some e → is_own e ≡ true → goes_alone T k ≡ true
alone_there T k e at own = ap (λ o. option_map_or is_own o false) at ∙ own

-- a core's own entry is behind
behind_alone : (ts : List (List CoreEntry)) (hs : List (List HistoryEntry)) (p q : List ℕ) → Stuck ts hs p q → (pre : List Move) (c : ℕ) (e : CoreEntry) → Ahead p q pre → is_own e ≡ true → slice_get (transcript_of ts c) (length (of_core c pre)) ≡ Some e → length (of_core c pre) < slice_index p c
behind_alone ts hs p q stuck pre c e h own at = elim (cases_lt (length (of_core c pre)) (slice_index p c)) [
  | inl lt ↦ lt
  | inr le ↦
      (let k = h.cores c in
      let same : length (of_core c pre) ≡ slice_index p c = omega arith in
      let there : goes_alone (transcript_of ts c) (slice_index p c) ≡ true = ap (goes_alone (transcript_of ts c)) (sym same) ∙ alone_there (transcript_of ts c) (length (of_core c pre)) e at own in
      absurd (false≢true (sym (stuck.cores c) ∙ there)))
]

behind_evicts : (ts : List (List CoreEntry)) (hs : List (List HistoryEntry)) (p q : List ℕ) → Stuck ts hs p q → (pre : List Move) (s a : ℕ) → Ahead p q pre → slice_get (history_of hs s) (length (of_slice s pre)) ≡ Some (Evicted a) → length (of_slice s pre) < slice_index q s
behind_evicts ts hs p q stuck pre s a h at = elim (cases_lt (length (of_slice s pre)) (slice_index q s)) [
  | inl lt ↦ lt
  | inr le ↦
      (let k = h.slices s in
      let same : length (of_slice s pre) ≡ slice_index q s = omega arith in
      absurd ((stuck.slices s).no_evicted a (ap (slice_get (history_of hs s)) (sym same) ∙ at)))
]

-- as many messages passed by the first entries of the core as by those of the slice
counts : (n c s : ℕ) (T : List CoreEntry) (H : List HistoryEntry) (ms : List Move) (i j : ℕ) → AreMoves n ms → of_core c ms ≡ take i T → of_slice s ms ≡ take j H → length (serveds c (take j H)) ≡ length (gots n s (take i T))
counts n c s T H ms i j moves core slice =
    ap (λ l. length (serveds c l)) (sym slice) ∙ (ap length (agree_in_order n c s ms moves) ∙ ap (λ l. length (gots n s l)) core)

-- a message that passes is behind at both
behind_passes : (ts : List (List CoreEntry)) (hs : List (List HistoryEntry)) (p q : List ℕ) → Reached ts hs p q → Stuck ts hs p q → (pre : List Move) (c s : ℕ) (m : Message) (r : Reply) → Ahead p q pre → AreMoves (length hs) pre → slice_of (length hs) (addr_of m) ≡ s → of_core c pre ≡ take (length (of_core c pre)) (transcript_of ts c) → of_slice s pre ≡ take (length (of_slice s pre)) (history_of hs s) → slice_get (transcript_of ts c) (length (of_core c pre)) ≡ Some (Got m r) → slice_get (history_of hs s) (length (of_slice s pre)) ≡ Some (Served c m r) → (length (of_core c pre) < slice_index p c) × (length (of_slice s pre) < slice_index q s)
behind_passes ts hs p q reached stuck pre c s m r h moves right core slice atc ats =
    let n = length hs in
    let T = transcript_of ts c in
    let H = history_of hs s in
    let a = length (of_core c pre) in
    let b = length (of_slice s pre) in
    let le_a = h.cores c in
    let le_b = h.slices s in
    let whole = counts n c s T H reached.order (slice_index p c) (slice_index q s) reached.merges.moves (reached.merges.cores c) (reached.merges.slices s) in
    let part = counts n c s T H pre a b moves core slice in
    let got_is : got_at n s (Got m r) ≡ Some (m, r) = rw (eq-eqb (slice_of n (addr_of m)) s right) refl in
    let served_is : served_at c (Served c m r) ≡ Some (m, r) = rw (eq-eqb c c refl) refl in
    let g = picks_grow (got_at n s) T a (Got m r) (m, r) atc got_is in
    let v = picks_grow (served_at c) H b (Served c m r) (m, r) ats served_is in
    elim (cases_lt a (slice_index p c)) [
      | inl lt ↦ elim (cases_lt b (slice_index q s)) [
        | inl lt' ↦ (lt, lt')
        | inr ge ↦
            (let same : b ≡ slice_index q s = omega arith in
            let up = picks_more (got_at n s) T (suc a) (slice_index p c) (omega arith) in
            let eqs = ap (λ k. length (serveds c (take k H))) same in
            absurd (omega arith))
      ]
      | inr ge ↦
          (let same : a ≡ slice_index p c = omega arith in
          elim (cases_lt b (slice_index q s)) [
            | inl lt' ↦
                (let up = picks_more (served_at c) H (suc b) (slice_index q s) (omega arith) in
                let eqs = ap (λ k. length (gots n s (take k T))) same in
                absurd (omega arith))
            | inr ge' ↦
                (let same' : b ≡ slice_index q s = omega arith in
                absurd ((stuck.slices s).no_pass c m r (ap (slice_get H) (sym same') ∙ ats) right (ap (slice_get T) (sym same) ∙ atc)))
          ])
    ]

-- one more move of another order
next_behind : (ts : List (List CoreEntry)) (hs : List (List HistoryEntry)) (p q : List ℕ) → Reached ts hs p q → Stuck ts hs p q → (P Q : ℕ → ℕ) (order : List Move) → Merges ts hs P Q order → (pre : List Move) (m : Move) (post : List Move) → pre ++ m ∷ post ≡ order → Ahead p q pre → Ahead p q (pre ++ m ∷ [])
next_behind ts hs p q reached stuck P Q order merges pre (alone c e) post is h =
    let moves = let F : List Move → Type 0 = λ l. AreMoves (length hs) l in moves_at (length hs) pre (alone c e) post (subst F (sym is) merges.moves) in
    let here = entry_here (core_entry c) (transcript_of ts c) (P c) pre (alone c e) post e (same_core c e) (ap (of_core c) is ∙ merges.cores c) in
    stays_alone p q pre c e h (behind_alone ts hs p q stuck pre c e h moves.1 here.1)
next_behind ts hs p q reached stuck P Q order merges pre (evicts s a) post is h =
    let here = entry_here (slice_entry s) (history_of hs s) (Q s) pre (evicts s a) post (Evicted a) (same_evicts s a) (ap (of_slice s) is ∙ merges.slices s) in
    stays_evicts p q pre s a h (behind_evicts ts hs p q stuck pre s a h here.1)
next_behind ts hs p q reached stuck P Q order merges pre (passes c s m r) post is h =
    let moves = let F : List Move → Type 0 = λ l. AreMoves (length hs) l in moves_at (length hs) pre (passes c s m r) post (subst F (sym is) merges.moves) in
    let one = entry_here (core_entry c) (transcript_of ts c) (P c) pre (passes c s m r) post (Got m r) (same_passes c s m r).0 (ap (of_core c) is ∙ merges.cores c) in
    let two = entry_here (slice_entry s) (history_of hs s) (Q s) pre (passes c s m r) post (Served c m r) (same_passes c s m r).1 (ap (of_slice s) is ∙ merges.slices s) in
    let both = behind_passes ts hs p q reached stuck pre c s m r h moves.0 moves.1 one.0 two.0 one.1 two.1 in
    stays_passes p q pre c s m r h both.0 both.1

all_behind : (ts : List (List CoreEntry)) (hs : List (List HistoryEntry)) (p q : List ℕ) → Reached ts hs p q → Stuck ts hs p q → (P Q : ℕ → ℕ) (order : List Move) → Merges ts hs P Q order → (post pre : List Move) → pre ++ post ≡ order → Ahead p q pre → Ahead p q (pre ++ post)
all_behind ts hs p q reached stuck P Q order merges [] pre is h = rw append-nil h
all_behind ts hs p q reached stuck P Q order merges (m ∷ post) pre is h =
    let next = next_behind ts hs p q reached stuck P Q order merges pre m post is h in
    let F : List Move → Type 0 = λ l. Ahead p q l in
    let assoc : (pre ++ m ∷ []) ++ post ≡ pre ++ m ∷ post = append_assoc pre (m ∷ []) post in
    subst F assoc (all_behind ts hs p q reached stuck P Q order merges post (pre ++ m ∷ []) (assoc ∙ is) next)

-- no order of first entries has an entry of a core that these fronts don't have
pub maximal : (ts : List (List CoreEntry)) (hs : List (List HistoryEntry)) (p q : List ℕ) → Reached ts hs p q → Stuck ts hs p q → (c k : ℕ) → k < length (transcript_of ts c) → InFronts ts hs c k → k < slice_index p c
maximal ts hs p q reached stuck c k within f =
    let start : Ahead p q [] = record { cores = λ d. omega arith; slices = λ s. omega arith } in
    let end = all_behind ts hs p q reached stuck f.p f.q f.order f.merges f.order [] refl start in
    let len = ap length (f.merges.cores c) in
    let lt = f.within in
    let long = length-take (f.p c) (transcript_of ts c) in
    let e = end.cores c in
    omega arith

pub picks_step : {A B : Type 0} (f : A → Option B) (T : List A) (k : ℕ) (d : A) → k < length T → length (picks f (take (k + 1) T)) ≡ length (picks f (take k T)) + length (put (f (get_or T k d)) [])
picks_step f T k d lt =
    ap (λ l. length (picks f l)) (take_more T k d lt) ∙ (ap length (picks-append f (take k T) (get_or T k d ∷ [])) ∙ length-append (picks f (take k T)) (put (f (get_or T k d)) []))

-- where all pairs agree and no core is left, no slice is left
pub no_slice_left : (ts : List (List CoreEntry)) (hs : List (List HistoryEntry)) (p q : List ℕ) → Reached ts hs p q → Stuck ts hs p q → ((c : ℕ) → c < 64 → length (transcript_of ts c) ≤ slice_index p c) → Agrees ts hs → (s : ℕ) → ((c : ℕ) (m : Message) (r : Reply) → slice_get (history_of hs s) (slice_index q s) ≡ Some (Served c m r) → c < 64) → (e : HistoryEntry) → s < length hs → slice_get (history_of hs s) (slice_index q s) ≡ Some e → ⊥
no_slice_left ts hs p q reached stuck full agree s from (Evicted a) in_s at = (stuck.slices s).no_evicted a at
no_slice_left ts hs p q reached stuck full agree s from (Served c m r) in_s at =
    let n = length hs in
    let T = transcript_of ts c in
    let H = history_of hs s in
    let lt = from c m r at in
    let whole = counts n c s T H reached.order (slice_index p c) (slice_index q s) reached.merges.moves (reached.merges.cores c) (reached.merges.slices s) in
    let all_T = ap (λ l. length (gots n s l)) (take_all (slice_index p c) T (full c lt)) in
    let same = ap length (agree c s lt in_s) in
    let served_is : served_at c (Served c m r) ≡ Some (m, r) = rw (eq-eqb c c refl) refl in
    let v = picks_grow (served_at c) H (slice_index q s) (Served c m r) (m, r) at served_is in
    let within = slice_get_within H (slice_index q s) (Served c m r) at in
    let up = picks_more (served_at c) H (suc (slice_index q s)) (length H) (omega arith) in
    let all_H = ap (λ l. length (serveds c l)) (take_all (length H) H (omega arith)) in
    absurd (omega arith)

-- where the whole lists have a merge, all pairs agree
pub merged_agrees : (ts : List (List CoreEntry)) (hs : List (List HistoryEntry)) → HasMerge ts hs → Agrees ts hs
merged_agrees ts hs h c s in_c in_s =
    ap (serveds c) (sym (h.merges.slices s)) ∙ (agree_in_order (length hs) c s h.order h.merges.moves ∙ ap (gots (length hs) s) (h.merges.cores c))
