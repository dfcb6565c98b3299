-- What stands where in a set with sources in place of words, and that an order that explains the sources explains the words.
use Rattle.std.proofs.Common.{◌≡◌, ◌∙◌, ap, sym, subst, refl, ℕ, zero, suc, ◌+◌, ◌*◌, ◌<◌, ◌≤◌, Bool, true, false, cond, List, [], ◌∷◌, ◌++◌, Option, None, Some, inl, inr, add-one, arith, get_or, length, take}
use Rattle.std.specs.Prelude.{All, ◌⊎◌, ◌==◌, if◌then◌else◌, is_some, map, option_and_then, option_map, slice_get, vec_len}
use Rattle.std.specs.Global.{Vec}
use Rattle.std.specs.List.{cons_option, filter_map}
use Rattle.std.specs.Option.{option_map_or}
use Rattle.std.proofs.Math.Seq.{take-suc}
use Rattle.std.proofs.lemmas.Bool.{and_parts, cases_Bool, cond-true, cond-false, eqb-true}
use Rattle.std.proofs.lemmas.List.{length-map, map-append}
use Rattle.std.proofs.lemmas.Option.{get_or_from_slice_get, same_Some, slice_get-map, slice_get_cases, slice_get_within}
use Rattle.address_check.proofs.Collecting.{core_more}
use Rattle.flat_replay.proofs.Flat.{after_is}
use Rattle.line_stamps.proofs.Ordered.{In-slice_get, filter_map-In}
use Rattle.line_stamps.specs.Ordered.{In}
use Rattle.log_file.proofs.Joined.{length-core_entries}
use Rattle.line_stamps.proofs.Ids.{same_id}
use Rattle.log_record.proofs.EntryFacts.{at, operation_at-operations_of}
use Rattle.log_record.specs.Entries.{core_entries, operation_by, operation_of, operations_of, record_at, record_lists}
use Rattle.log_record.specs.declared.act.Act.{Act}
use Rattle.log_record.specs.declared.act.Act.TheVariants.{Load, Store, Swap}
use Rattle.log_record.specs.declared.record.Entry.{Entry}
use Rattle.log_record.specs.declared.record.Record.{Record}
use Rattle.mem_op.specs.Consistency.{Operation, Loaded, Stored, Swapped, GivesFlatAnswers, IsSequentialOrder, is_store_to, last_value, operation_at, word_left}
use Rattle.mem_op.specs.Limits.{operation_limit}
use Rattle.mem_op.specs.declared.id.OpId.{OpId}
use Rattle.mem_op.specs.declared.id.Source.{Source}
use Rattle.mem_op.specs.declared.id.Source.TheVariants.{Init, Store as From}
use Rattle.flat_replay.specs.Accesses.{operation_lists}
use Rattle.refutation.proofs.Runs.{after-is}
use Rattle.trace.specs.Growing.{IsOfSize}
use Rattle.commands.proofs.LogTraces.{same_size, size_of_logs}
use Rattle.commands.specs.Sources.{may_give, no_number, number_read, numbered, numbered_by, numbered_from, sourced_operations, stores}
use Rattle.log_record.specs.SourceNumbers.{source_number, store_number}

-- ---- one more

-- record of a core
pub record_more : (cores : List (List Operation)) (core n : ℕ) (log : List Record) (d : Record) → n < length log
    → map (numbered cores) (core_entries core 0 (take (n + 1) log)) ≡ map (numbered cores) (core_entries core 0 (take n log)) ++ numbered cores (at (record { core = core; index = n }) (get_or log n d)) ∷ []
record_more cores core n log d below =
    ap (map (numbered cores)) (core_more core 0 n log d below)
    ∙ map-append (numbered cores) (core_entries core 0 (take n log)) _
    ∙ ap (λ i. map (numbered cores) (core_entries core 0 (take n log)) ++ numbered cores (at (record { core = core; index = i }) (get_or log n d)) ∷ []) (let e : 0 + n ≡ n = omega arith in e)

-- log of a set
log_more_suc : (cores : List (List Operation)) (core n : ℕ) (vs : List (Vec Record)) (d : Vec Record) → n < length vs
    → numbered_from cores core (record_lists (take (suc n) vs)) ≡ numbered_from cores core (record_lists (take n vs)) ++ map (numbered cores) (core_entries (core + n) 0 (get_or vs n d).items) ∷ []
log_more_suc cores core n [] d below = absurd (omega arith)
log_more_suc cores core zero (v ∷ vs) d below = ap (λ c. map (numbered cores) (core_entries c 0 v.items) ∷ []) (let e : core ≡ core + 0 = omega arith in e)
log_more_suc cores core (suc n) (v ∷ vs) d below =
    ap (λ rest. map (numbered cores) (core_entries core 0 v.items) ∷ rest) (log_more_suc cores (suc core) n vs d (omega arith)
    ∙ ap (λ c. numbered_from cores (suc core) (record_lists (take n vs)) ++ map (numbered cores) (core_entries c 0 (get_or vs n d).items) ∷ []) (let e : suc core + n ≡ core + suc n = omega arith in e))

log_more : (cores : List (List Operation)) (core n : ℕ) (vs : List (Vec Record)) (d : Vec Record) → n < length vs
    → numbered_from cores core (record_lists (take (n + 1) vs)) ≡ numbered_from cores core (record_lists (take n vs)) ++ map (numbered cores) (core_entries (core + n) 0 (get_or vs n d).items) ∷ []
log_more cores core n vs d below = ap (λ k. numbered_from cores core (record_lists (take k vs))) (add-one n) ∙ log_more_suc cores core n vs d below

-- so the next log comes behind those that were made
pub log_pushed : (cores : List (List Operation)) (vs : List (Vec Record)) (made : List (Vec Operation)) (v : Vec Operation) (d : Vec Record) (n : ℕ) → n < length vs → operation_lists made ≡ numbered_from cores 0 (record_lists (take n vs))
    → v.items ≡ map (numbered cores) (core_entries n 0 (get_or vs n d).items) → operation_lists (made ++ v ∷ []) ≡ numbered_from cores 0 (record_lists (take (n + 1) vs))
log_pushed cores vs made v d n below so_far here =
    map-append (λ (core : Vec Operation). core.items) made (v ∷ []) ∙ ap (λ (ls : List (List Operation)). ls ++ v.items ∷ []) so_far
    ∙ ap (λ (l : List Operation). numbered_from cores 0 (record_lists (take n vs)) ++ l ∷ []) (here ∙ ap (λ c. map (numbered cores) (core_entries c 0 (get_or vs n d).items)) (let e : n ≡ 0 + n = omega arith in e))
    ∙ sym (log_more cores 0 n vs d below)

-- ---- how many

-- as many operations as records
pub lengths_from : (cores : List (List Operation)) (core : ℕ) (logs : List (List Record)) → map length (numbered_from cores core logs) ≡ map length (operations_of logs)
lengths_from cores core [] = refl
lengths_from cores core (log ∷ logs) =
    ap (λ n. n ∷ map length (numbered_from cores (suc core) logs)) (length-map (core_entries core 0 log) (numbered cores) ∙ length-core_entries core 0 log ∙ sym (length-map log operation_of))
    ∙ ap (λ ns. length (map operation_of log) ∷ ns) (lengths_from cores (suc core) logs)

-- so such operations fit into a trace
pub fits : (made : List (Vec Operation)) (cores : List (List Operation)) (logs : List (Vec Record)) → operation_lists made ≡ numbered_from cores 0 (record_lists logs) → length logs ≤ 64
    → All (λ log. vec_len log ≤ operation_limit) logs → IsOfSize (operation_lists made)
fits made cores logs is few short =
    same_size (operations_of (record_lists logs)) (operation_lists made) (ap (map length) is ∙ lengths_from cores 0 (record_lists logs)) (size_of_logs logs few short)

-- ---- what stands at an id

entry_at : (core i : ℕ) (log : List Record) (k : ℕ) → slice_get (core_entries core i log) k ≡ option_map (λ r. at (record { core = core; index = i + k }) r) (slice_get log k)
entry_at core i [] k = refl
entry_at core i (r ∷ log) zero = ap (λ j. Some (at (record { core = core; index = j }) r)) (let e : i ≡ i + 0 = omega arith in e)
entry_at core i (r ∷ log) (suc k) =
    entry_at core (suc i) log k ∙ ap (λ j. option_map (λ r. at (record { core = core; index = j }) r) (slice_get log k)) (let e : suc i + k ≡ i + suc k = omega arith in e)

log_at : (cores : List (List Operation)) (core : ℕ) (more : List (List Record)) (k : ℕ) → slice_get (numbered_from cores core more) k ≡ option_map (λ log. map (numbered cores) (core_entries (core + k) 0 log)) (slice_get more k)
log_at cores core [] k = refl
log_at cores core (log ∷ more) zero = ap (λ c. Some (map (numbered cores) (core_entries c 0 log))) (let e : core ≡ core + 0 = omega arith in e)
log_at cores core (log ∷ more) (suc k) =
    log_at cores (suc core) more k ∙ ap (λ c. option_map (λ log. map (numbered cores) (core_entries c 0 log)) (slice_get more k)) (let e : suc core + k ≡ core + suc k = omega arith in e)

-- the operation with numbers at an id is that of its record
numbered_at : (cores : List (List Operation)) (logs : List (List Record)) (id : OpId) → operation_at (numbered_from cores 0 logs) id ≡ option_map (λ r. numbered cores (at id r)) (record_at logs id)
numbered_at cores logs id = ap (option_and_then (λ ops. slice_get ops id.index)) (log_at cores 0 logs id.core) ∙ go (slice_get logs id.core)
  where
    of_record : (o : Option Record) → option_map (numbered cores) (option_map (λ r. at (record { core = 0 + id.core; index = 0 + id.index }) r) o) ≡ option_map (λ r. numbered cores (at id r)) o
    of_record None = refl
    of_record (Some r) = ap (λ (i : OpId). Some (numbered cores (at i r))) (same_id (record { core = 0 + id.core; index = 0 + id.index }) id (omega arith) (omega arith))

    go : (o : Option (List Record)) → option_and_then (λ ops. slice_get ops id.index) (option_map (λ log. map (numbered cores) (core_entries (0 + id.core) 0 log)) o)
        ≡ option_map (λ r. numbered cores (at id r)) (option_and_then (λ log. slice_get log id.index) o)
    go None = refl
    go (Some log) =
        slice_get-map (numbered cores) (core_entries (0 + id.core) 0 log) id.index ∙ ap (option_map (numbered cores)) (entry_at (0 + id.core) 0 log id.index) ∙ of_record (slice_get log id.index)

-- ---- numbers

-- a store is one to the same address, and leaves its number there
same_stores : (cores : List (List Operation)) (id : OpId) (addr value : ℕ) (act : Act) (a : ℕ) → is_store_to a (numbered_by cores id addr value act) ≡ is_store_to a (operation_by act addr value)
same_stores cores id addr value (Load source) a = refl
same_stores cores id addr value Store a = refl
same_stores cores id addr value (Swap source read) a = refl

leaves_number : (cores : List (List Operation)) (id : OpId) (addr value : ℕ) (act : Act) (a : ℕ) → is_store_to a (operation_by act addr value) ≡ true
    → word_left (numbered_by cores id addr value act) ≡ store_number id
leaves_number cores id addr value (Load source) a is = absurd (let wrong : false ≡ true = is in cc)
leaves_number cores id addr value Store a is = refl
leaves_number cores id addr value (Swap source read) a is = refl

clash : (b : Bool) → b ≡ true → b ≡ false → ⊥
clash b is isnt = let wrong : true ≡ false = sym is ∙ isnt in cc

module _ (logs : List (List Record)) (few : length logs ≤ 64) (short : All (λ log. length log ≤ operation_limit) logs) where
  abbrev worded : List (List Operation)
  worded = operations_of logs

  -- an id that stands in the set is in range
  in_range : (id : OpId) (r : Record) → record_at logs id ≡ Some r → (id.core < 64) × (id.index < 1048576)
  in_range id r there = go (slice_get logs id.core) refl there
    where
      go : (o : Option (List Record)) → slice_get logs id.core ≡ o → option_and_then (λ log. slice_get log id.index) o ≡ Some r → (id.core < 64) × (id.index < 1048576)
      go None is found = absurd cc
      go (Some log) is found =
          let core = slice_get_within logs id.core log is in
          let index = slice_get_within log id.index r found in
          let same : get_or logs id.core log ≡ log = get_or_from_slice_get logs id.core log log is in
          let most : length log ≤ 1048576 = subst (λ (l : List Record). length l ≤ operation_limit) same (short id.core log core) in
          (omega (arith, core, few), omega (arith, index, most))

  -- stores have different numbers
  one_number : (a b : OpId) (r s : Record) → record_at logs a ≡ Some r → record_at logs b ≡ Some s → store_number a ≡ store_number b → a ≡ b
  one_number a b r s at_a at_b same =
      let p : a.index < 1048576 = (in_range a r at_a).1 in
      let q : b.index < 1048576 = (in_range b s at_b).1 in
      let n : 1 + a.core * 1048576 + a.index ≡ 1 + b.core * 1048576 + b.index = same in
      same_id a b (omega (arith, p, q, n)) (omega (arith, p, q, n))

  -- a read of 0 read the initial 0
  zero_of : (source : Source) (addr word : ℕ) → may_give worded source addr word ≡ true → source_number source ≡ 0 → word ≡ 0
  zero_of Init addr word gives is = eqb-true word 0 gives
  zero_of (From id) addr word gives is = absurd (let n : 1 + id.core * 1048576 + id.index ≡ 0 = is in omega (arith, n))

  reads_zero : (source : Source) (addr word : ℕ) → number_read worded source addr word ≡ 0 → word ≡ 0
  reads_zero source addr word is = go (may_give worded source addr word) refl is
    where
      go : (b : Bool) → may_give worded source addr word ≡ b → (if b then source_number source else no_number) ≡ 0 → word ≡ 0
      go false gives is = absurd (let n : 18446744073709551615 ≡ 0 = is in omega (arith, n))
      go true gives is = zero_of source addr word gives is

  -- and one of a store's number read the word of that store
  word_of : (source : Source) (addr word : ℕ) (id : OpId) (r : Record) → record_at logs id ≡ Some r → may_give worded source addr word ≡ true → source_number source ≡ store_number id
      → word_left (operation_of r) ≡ word
  word_of Init addr word id r there gives is = absurd (let n : 0 ≡ 1 + id.core * 1048576 + id.index = is in omega (arith, n))
  word_of (From other) addr word id r there gives is =
      by_record (record_at logs other) refl (subst (λ (o : Option Operation). option_map_or (stores addr word) o false ≡ true) (operation_at-operations_of logs other) gives)
    where
      by_record : (o : Option Record) → record_at logs other ≡ o → option_map_or (stores addr word) (option_map operation_of o) false ≡ true → word_left (operation_of r) ≡ word
      by_record None at_other gives = absurd (clash false gives refl)
      by_record (Some s) at_other gives =
          let same : other ≡ id = one_number other id s r at_other there is in
          let found : Some s ≡ Some r = sym at_other ∙ ap (record_at logs) same ∙ there in
          let one : s ≡ r = cc in
          let parts = and_parts (is_store_to addr (operation_of s)) (word_left (operation_of s) == word) gives in
          ap (λ (x : Record). word_left (operation_of x)) (sym one) ∙ eqb-true _ _ parts.1

  reads_store : (source : Source) (addr word : ℕ) (id : OpId) (r : Record) → record_at logs id ≡ Some r → number_read worded source addr word ≡ store_number id → word_left (operation_of r) ≡ word
  reads_store source addr word id r there is = go (may_give worded source addr word) refl is
    where
      go : (b : Bool) → may_give worded source addr word ≡ b → (if b then source_number source else no_number) ≡ store_number id → word_left (operation_of r) ≡ word
      go false gives is = absurd (
          let p = in_range id r there in
          let core : id.core < 64 = p.0 in
          let index : id.index < 1048576 = p.1 in
          let n : 18446744073709551615 ≡ 1 + id.core * 1048576 + id.index = is in
          omega (arith, core, index, n))
      go true gives is = word_of source addr word id r there gives is

-- ---- an order

abbrev word_by : Entry → Operation
word_by e = operation_of e.logged

-- the records by the ids of an order
abbrev placed : List (List Record) → List OpId → List Entry
placed logs order = filter_map (λ id. option_map (at id) (record_at logs id)) order

placed_is : (logs : List (List Record)) (order : List OpId) (e : Entry) → In e (placed logs order) → record_at logs e.id ≡ Some e.logged
placed_is logs order e p = (let found = filter_map-In (λ id. option_map (at id) (record_at logs id)) order e p in go found.0 (record_at logs found.0) refl found.2)
  where
    go : (id : OpId) (o : Option Record) → record_at logs id ≡ o → option_map (at id) o ≡ Some e → record_at logs e.id ≡ Some e.logged
    go id None there is = absurd cc
    go id (Some r) there is = subst (λ (x : Entry). record_at logs x.id ≡ Some x.logged) (same_Some (at id r) e is) there

-- the operations by them are those of the records
by_entry : (logs : List (List Record)) (cores : List (List Operation)) (of : Entry → Operation) → ((id : OpId) → operation_at cores id ≡ option_map (λ r. of (at id r)) (record_at logs id))
    → (order : List OpId) → filter_map (operation_at cores) order ≡ map of (placed logs order)
by_entry logs cores of each [] = refl
by_entry logs cores of each (id ∷ order) =
    ap (λ o. cons_option o (filter_map (operation_at cores) order)) (each id) ∙ go (record_at logs id) (by_entry logs cores of each order)
  where
    go : (o : Option Record) → filter_map (operation_at cores) order ≡ map of (placed logs order)
        → cons_option (option_map (λ r. of (at id r)) o) (filter_map (operation_at cores) order) ≡ map of (cons_option (option_map (at id) o) (placed logs order))
    go None later = later
    go (Some r) later = ap (λ ys. of (at id r) ∷ ys) later

last_value-push : (addr : ℕ) (ys : List Operation) (k : ℕ) (y : Operation) → slice_get ys k ≡ Some y → last_value addr (take (suc k) ys) ≡ cond (is_store_to addr y) (word_left y) (last_value addr (take k ys))
last_value-push addr ys k y here =
    ap (last_value addr) (take-suc ys k y (slice_get_within ys k y here) ∙ ap (λ x. take k ys ++ x ∷ []) (get_or_from_slice_get ys k y y here))
    ∙ sym (after_is y (λ a. last_value a (take k ys)) (take k ys) addr refl) ∙ after-is (λ a. last_value a (take k ys)) y addr

module _ (logs : List (List Record)) (few : length logs ≤ 64) (short : All (λ log. length log ≤ operation_limit) logs) (es : List Entry) (each : (e : Entry) → In e es → record_at logs e.id ≡ Some e.logged) where
  abbrev words : List Operation
  words = map word_by es

  abbrev numbers : List Operation
  numbers = map (numbered (operations_of logs)) es

  by_place : (of : Entry → Operation) (k : ℕ) (e : Entry) → slice_get es k ≡ Some e → slice_get (map of es) k ≡ Some (of e)
  by_place of k e here = slice_get-map of es k ∙ ap (option_map of) here

  -- the last word and the last number are 0, or those of one store
  abbrev AreOf : ℕ → ℕ → Type 0
  AreOf word number = ((word ≡ 0) × (number ≡ 0)) ⊎ ((e : Entry) × In e es × (word ≡ word_left (word_by e)) × (number ≡ store_number e.id))

  lasts : (addr k : ℕ) → k ≤ length es → AreOf (last_value addr (take k words)) (last_value addr (take k numbers))
  lasts addr zero l = inl (refl, refl)
  lasts addr (suc k) l = elim (slice_get_cases es k).1 [
    | inr past ↦ absurd (let low = past.0 in omega arith)
    | inl found ↦ (
        let e = found.0 in
        let here = found.2 in
        let r = e.logged in
        let word = last_value-push addr words k (word_by e) (by_place word_by k e here) in
        let number = last_value-push addr numbers k (numbered (operations_of logs) e) (by_place (numbered (operations_of logs)) k e here) in
        let both = same_stores (operations_of logs) e.id r.addr r.value r.act addr in
        elim (cases_Bool (is_store_to addr (word_by e))) [
          | inl does ↦ inr (
            e,
            In-slice_get e es k here,
            word ∙ cond-true _ _ _ does,
            number ∙ cond-true _ _ _ (both ∙ does) ∙ leaves_number (operations_of logs) e.id r.addr r.value r.act addr does,
          )
          | inr isnt ↦ subst (AreOf _) (sym (number ∙ cond-false _ _ _ (both ∙ isnt)))
              (subst (λ w. AreOf w (last_value addr (take k numbers))) (sym (word ∙ cond-false _ _ _ isnt)) (lasts addr k (omega arith)))
        ])
  ]

  -- what is read is the last word
  read_right : (k addr word : ℕ) (source : Source) → k ≤ length es → number_read (operations_of logs) source addr word ≡ last_value addr (take k numbers) → word ≡ last_value addr (take k words)
  read_right k addr word source l reads = elim (lasts addr k l) [
    | inl none ↦ reads_zero logs few short source addr word (reads ∙ none.1) ∙ sym none.0
    | inr one ↦ sym (reads_store logs few short source addr word one.0.id one.0.logged (each one.0 one.1) (reads ∙ one.3)) ∙ sym one.2
  ]

  module _ (flat : GivesFlatAnswers numbers) where
    -- a load, by its record
    load_right : (k addr word : ℕ) (id : OpId) (a value : ℕ) (act : Act) → k ≤ length es
        → slice_get numbers k ≡ Some (numbered_by (operations_of logs) id a value act)
        → operation_by act a value ≡ Loaded addr word → word ≡ last_value addr (take k words)
    load_right k addr word id a value (Load source) l here is =
        let e : Loaded a value ≡ Loaded addr word = is in
        let a-is : a ≡ addr = cc in
        let v-is : value ≡ word = cc in
        let right : value ≡ last_value a (take k words) = read_right k a value source l (flat.loads k a (number_read (operations_of logs) source a value) here) in
        sym v-is ∙ right ∙ ap (λ x. last_value x (take k words)) a-is
    load_right k addr word id a value Store l here is = absurd (let e : Stored a value ≡ Loaded addr word = is in cc)
    load_right k addr word id a value (Swap source read) l here is = absurd (let e : Swapped a read value ≡ Loaded addr word = is in cc)

    swap_right : (k addr word stored : ℕ) (id : OpId) (a value : ℕ) (act : Act) → k ≤ length es
        → slice_get numbers k ≡ Some (numbered_by (operations_of logs) id a value act)
        → operation_by act a value ≡ Swapped addr word stored → word ≡ last_value addr (take k words)
    swap_right k addr word stored id a value (Load source) l here is = absurd (let e : Loaded a value ≡ Swapped addr word stored = is in cc)
    swap_right k addr word stored id a value Store l here is = absurd (let e : Stored a value ≡ Swapped addr word stored = is in cc)
    swap_right k addr word stored id a value (Swap source read) l here is =
        let e : Swapped a read value ≡ Swapped addr word stored = is in
        let a-is : a ≡ addr = cc in
        let r-is : read ≡ word = cc in
        let right : read ≡ last_value a (take k words) = read_right k a read source l (flat.swaps k a (number_read (operations_of logs) source a read) (store_number id) here) in
        sym r-is ∙ right ∙ ap (λ x. last_value x (take k words)) a-is

    record Here (k : ℕ) (y : Operation) : Type 0 where
      e : Entry
      within : k ≤ length es
      number : slice_get numbers k ≡ Some (numbered (operations_of logs) e)
      is : word_by e ≡ y

    entry_here : (k : ℕ) (y : Operation) → slice_get words k ≡ Some y → Here k y
    entry_here k y is = elim (slice_get_cases es k).1 [
      | inl found ↦ (
          let low = found.1 in
          record { e = found.0; within = omega arith; number = by_place (numbered (operations_of logs)) k found.0 found.2; is = same_Some (word_by found.0) y (sym (by_place word_by k found.0 found.2) ∙ is) })
      | inr past ↦ absurd (let none = sym is ∙ slice_get-map word_by es k ∙ ap (option_map word_by) past.1 in cc)
    ]

    words_right : GivesFlatAnswers words
    words_right = record {
      loads = λ k addr word is. (
          let h = entry_here k (Loaded addr word) is in
          let r = h.e.logged in
          load_right k addr word h.e.id r.addr r.value r.act h.within h.number h.is);
      swaps = λ k addr word stored is. (
          let h = entry_here k (Swapped addr word stored) is in
          let r = h.e.logged in
          swap_right k addr word stored h.e.id r.addr r.value r.act h.within h.number h.is);
    }

pub order_explains : (logs : List (List Record)) (order : List OpId) → length logs ≤ 64 → All (λ log. length log ≤ operation_limit) logs
    → IsSequentialOrder (sourced_operations logs) order → IsSequentialOrder (operations_of logs) order
order_explains logs order few short sequential = record {
  serial = λ id. sequential.serial id ∙ ap (λ b. if b then 1 else 0) (ap is_some (numbered_at (operations_of logs) logs id) ∙ both (record_at logs id) id ∙ sym (ap is_some (operation_at-operations_of logs id)));
  program = sequential.program;
  flat = subst GivesFlatAnswers (sym (by_entry logs (operations_of logs) word_by (operation_at-operations_of logs) order))
      (words_right logs few short (placed logs order) (placed_is logs order) (subst GivesFlatAnswers (by_entry logs (sourced_operations logs) (numbered (operations_of logs)) (numbered_at (operations_of logs) logs) order) sequential.flat));
}
  where
    both : (o : Option Record) (id : OpId) → is_some (option_map (λ r. numbered (operations_of logs) (at id r)) o) ≡ is_some (option_map operation_of o)
    both None id = refl
    both (Some r) id = refl
