-- What stands among the entries of a set: each record with its id, and no id twice.
use Rattle.std.specs.Prelude.{◌≡◌, ℕ, zero, suc, ◌+◌, List, [], ◌∷◌, ◌++◌, refl, ◌⊎◌, Option, Some, None, slice_get, option_and_then, map}
use Rattle.std.proofs.Common.{sym, ◌∙◌, ap, subst, inl, inr, arith}
use Rattle.std.specs.Option.{option_map}
use Rattle.std.proofs.lemmas.Option.{slice_get-map}
use Rattle.mem_op.specs.declared.id.OpId.{OpId}
use Rattle.mem_op.specs.Consistency.{operation_at}
use Rattle.log_record.specs.declared.record.Record.{Record}
use Rattle.log_record.specs.declared.record.Entry.{Entry}
use Rattle.log_record.specs.Entries.{operation_of, operations_of, core_entries, entries_from, entries, record_at}
use Rattle.line_stamps.specs.Ordered.{In, EachPair}
use Rattle.line_stamps.proofs.Ordered.{In-append, In-append_left, In-append_right}

-- a record as the entry of an id
abbrev pub at : OpId → Record → Entry
at id r = record { id = id; logged = r }

entry_in_core : (e : Entry) (c i : ℕ) (rs : List Record) → In e (core_entries c i rs) → (k : ℕ) × (e.id.core ≡ c) × (e.id.index ≡ i + k) × (slice_get rs k ≡ Some e.logged)
entry_in_core e c i [] h = absurd h
entry_in_core e c i (r ∷ rs) (inl q) = (0, sym (ap (λ (x : Entry). x.id.core) q), (let f : i ≡ e.id.index = ap (λ (x : Entry). x.id.index) q in omega arith), ap (λ (x : Entry). Some x.logged) q)
entry_in_core e c i (r ∷ rs) (inr h) = let t = entry_in_core e c (suc i) rs h in (suc t.0, t.1, (let f : e.id.index ≡ suc i + t.0 = t.2 in omega arith), t.3)

abbrev in_log : ℕ → Option (List Record) → Option Record
in_log i o = option_and_then (λ log. slice_get log i) o

entry_in_set : (e : Entry) (c : ℕ) (logs : List (List Record)) → In e (entries_from c logs) → (k : ℕ) × (e.id.core ≡ c + k) × (in_log e.id.index (slice_get logs k) ≡ Some e.logged)
entry_in_set e c [] h = absurd h
entry_in_set e c (log ∷ logs) h = elim (In-append e (core_entries c 0 log) (entries_from (suc c) logs) h) [
  | inl p ↦ (let t = entry_in_core e c 0 log p in (0, (let f : e.id.core ≡ c = t.1 in omega arith), subst (λ j. slice_get log j ≡ Some e.logged) (let f : e.id.index ≡ 0 + t.0 = t.2 in omega arith) t.3))
  | inr p ↦ (let t = entry_in_set e (suc c) logs p in (suc t.0, (let f : e.id.core ≡ suc c + t.0 = t.1 in omega arith), t.2))
]

-- an entry's record stands at its id
pub record_of_entry : (logs : List (List Record)) (e : Entry) → In e (entries logs) → record_at logs e.id ≡ Some e.logged
record_of_entry logs e h = let t = entry_in_set e 0 logs h in subst (λ j. in_log e.id.index (slice_get logs j) ≡ Some e.logged) (let f : e.id.core ≡ 0 + t.0 = t.1 in omega arith) t.2

in_core : (id : OpId) (r : Record) (c i k : ℕ) (rs : List Record) → id.core ≡ c → id.index ≡ i + k → slice_get rs k ≡ Some r → In (at id r) (core_entries c i rs)
in_core id r c i k [] p q h = cc
in_core id r c i zero (x ∷ rs) p q h = inl (let f : x ≡ r = cc in let g : i ≡ id.index = omega arith in λ j. record { id = record { core = sym p j; index = g j }; logged = f j })
in_core id r c i (suc k) (x ∷ rs) p q h = inr (in_core id r c (suc i) k rs p (omega arith) h)

in_set : (id : OpId) (r : Record) (c k : ℕ) (logs : List (List Record)) → id.core ≡ c + k → in_log id.index (slice_get logs k) ≡ Some r → In (at id r) (entries_from c logs)
in_set id r c k [] p h = cc
in_set id r c zero (log ∷ logs) p h = In-append_left (at id r) (core_entries c 0 log) (entries_from (suc c) logs) (in_core id r c 0 id.index log (omega arith) (omega arith) h)
in_set id r c (suc k) (log ∷ logs) p h = In-append_right (at id r) (core_entries c 0 log) (entries_from (suc c) logs) (in_set id r (suc c) k logs (omega arith) h)

-- the record of an id stands among the entries
pub entry_of_record : (logs : List (List Record)) (id : OpId) (r : Record) → record_at logs id ≡ Some r → In (at id r) (entries logs)
entry_of_record logs id r h = in_set id r 0 id.core logs (omega arith) h

-- two entries of one id are one
pub same_record : (logs : List (List Record)) (a b : Entry) → In a (entries logs) → In b (entries logs) → a.id ≡ b.id → a.logged ≡ b.logged
same_record logs a b p q e =
    let f : record_at logs a.id ≡ Some a.logged = record_of_entry logs a p in
    let g : record_at logs b.id ≡ Some b.logged = record_of_entry logs b q in
    let h : record_at logs a.id ≡ record_at logs b.id = ap (record_at logs) e in
    cc

-- no id twice
abbrev pub Apart : Entry → Entry → Type 0
Apart a b = a.id ≡ b.id → ⊥

pub EachPair-append : {X : Type 0} (R : X → X → Type 0) (xs ys : List X) → ((x y : X) → In x xs → In y ys → R x y) → EachPair R xs → EachPair R ys → EachPair R (xs ++ ys)
EachPair-append R [] ys c p q = q
EachPair-append {X} R (x ∷ xs) ys c p q = (λ y h. both y (In-append y xs ys h), EachPair-append R xs ys (λ a b s t. c a b (inr s) t) p.1 q)
  where
    both : (y : X) → In y xs ⊎ In y ys → R x y
    both y (inl h) = p.0 y h
    both y (inr h) = c x y (inl refl) h

apart_core : (c i : ℕ) (rs : List Record) → EachPair Apart (core_entries c i rs)
apart_core c i [] = tt
apart_core c i (r ∷ rs) = (λ e h q. (let t = entry_in_core e c (suc i) rs h in let f : i ≡ e.id.index = ap (λ (x : OpId). x.index) q in let g : e.id.index ≡ suc i + t.0 = t.2 in omega arith), apart_core c (suc i) rs)

apart_set : (c : ℕ) (logs : List (List Record)) → EachPair Apart (entries_from c logs)
apart_set c [] = tt
apart_set c (log ∷ logs) = EachPair-append Apart (core_entries c 0 log) (entries_from (suc c) logs) (λ a b p q h. across a b p q h) (apart_core c 0 log) (apart_set (suc c) logs)
  where
    across : (a b : Entry) → In a (core_entries c 0 log) → In b (entries_from (suc c) logs) → a.id ≡ b.id → ⊥
    across a b p q h =
        let s = entry_in_core a c 0 log p in
        let t = entry_in_set b (suc c) logs q in
        let e : a.id.core ≡ b.id.core = ap (λ (x : OpId). x.core) h in
        let f : a.id.core ≡ c = s.1 in
        let g : b.id.core ≡ suc c + t.0 = t.1 in
        omega arith

pub apart : (logs : List (List Record)) → EachPair Apart (entries logs)
apart logs = apart_set 0 logs

map-and_then : (i : ℕ) (o : Option (List Record)) → option_and_then (λ ops. slice_get ops i) (option_map (map operation_of) o) ≡ option_map operation_of (in_log i o)
map-and_then i None = refl
map-and_then i (Some log) = slice_get-map operation_of log i

-- the operation of an id is its record's
pub operation_at-operations_of : (logs : List (List Record)) (id : OpId) → operation_at (operations_of logs) id ≡ option_map operation_of (record_at logs id)
operation_at-operations_of logs id =
    ap (option_and_then (λ ops. slice_get ops id.index)) (slice_get-map (map operation_of) logs id.core) ∙ map-and_then id.index (slice_get logs id.core)
