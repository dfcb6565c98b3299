-- The logs of a set in one list of entries: where each begins and ends, and one more of them.
use Rattle.std.specs.Prelude.{◌≡◌, ℕ, zero, suc, ◌+◌, ◌-◌, ◌≤◌, ◌<◌, List, [], ◌∷◌, ◌++◌, Some, None, drop, length, map, option_map, refl, slice_get, take}
use Rattle.std.proofs.Common.{◌∙◌, ap, get_or, append_assoc, append-nil, arith, length-append, subst, sym}
use Rattle.std.proofs.lemmas.List.{drop_at, drop-append-le, drop-drop, length-drop, length-map, map-append, take_at}
use Rattle.std.proofs.lemmas.Option.{get_or_from_slice_get, slice_get_past, slice_get_read, slice_get_within, slice_get-get_or}
use Rattle.std.proofs.lemmas.List.Elements.{All-get_or}
use Rattle.mem_op.specs.Limits.{operation_limit}
use Rattle.log_record.specs.declared.record.Record.{Record}
use Rattle.log_record.specs.declared.record.Entry.{Entry}
use Rattle.log_record.specs.Entries.{core_entries, entries_from, entries}
use Rattle.log_file.specs.declared.log_set.LogSet.TheInside.{Inside}
use Rattle.log_file.specs.inner.EntryKeeping.{KeepsEntries, records_after}
use Rattle.log_file.specs.SetKeeping.{IsLogSet, KeepsLogs, ends_from, keeps_set, logs_in, logs_to, start_in}

-- ---- the entries of a log

-- the entries of more records of a core
pub core_entries-append : (c i : ℕ) (xs ys : List Record) → core_entries c i (xs ++ ys) ≡ core_entries c i xs ++ core_entries c (i + length xs) ys
core_entries-append c i [] ys = ap (λ n. core_entries c n ys) (let z : i ≡ i + 0 = omega arith in z)
core_entries-append c i (x ∷ xs) ys = ap (λ l. record { id = record { core = c; index = i }; logged = x } ∷ l)
    (core_entries-append c (suc i) xs ys ∙ ap (λ n. core_entries c (suc i) xs ++ core_entries c n ys) (let z : suc i + length xs ≡ i + suc (length xs) = omega arith in z))

pub length-core_entries : (c i : ℕ) (log : List Record) → length (core_entries c i log) ≡ length log
length-core_entries c i [] = refl
length-core_entries c i (r ∷ log) = ap suc (length-core_entries c (suc i) log)

records_again : (c i : ℕ) (log : List Record) → map (λ (e : Entry). e.logged) (core_entries c i log) ≡ log
records_again c i [] = refl
records_again c i (r ∷ log) = ap (λ (rs : List Record). r ∷ rs) (records_again c (suc i) log)

-- the records of a log of a set, read back from its entries
pub log_again : (logs : List (List Record)) (k : ℕ) (es : List Entry) → k < length logs → Some es ≡ option_map (λ (log : List Record). core_entries k 0 log) (slice_get logs k)
    → map (λ (e : Entry). e.logged) es ≡ get_or logs k []
log_again logs k es lt h =
    let log = get_or logs k [] in
    let found : Some es ≡ Some (core_entries k 0 log) = h ∙ ap (option_map (λ (l : List Record). core_entries k 0 l)) (slice_get-get_or logs k [] lt) in
    let is : es ≡ core_entries k 0 log = cc in
    ap (map (λ (e : Entry). e.logged)) is ∙ records_again k 0 log

-- ---- the entries of a set

-- the entries of one more log
pub entries_from-push : (c : ℕ) (logs : List (List Record)) (log : List Record) → entries_from c (logs ++ log ∷ []) ≡ entries_from c logs ++ core_entries (c + length logs) 0 log
entries_from-push c [] log = append-nil (core_entries c 0 log) ∙ ap (λ n. core_entries n 0 log) (let z : c ≡ c + 0 = omega arith in z)
entries_from-push c (x ∷ xs) log =
    ap (λ l. core_entries c 0 x ++ l) (entries_from-push (suc c) xs log ∙ ap (λ n. entries_from (suc c) xs ++ core_entries n 0 log) (let z : suc c + length xs ≡ c + suc (length xs) = omega arith in z))
    ∙ sym (append_assoc (core_entries c 0 x) (entries_from (suc c) xs) (core_entries (c + suc (length xs)) 0 log))

-- the logs, read back from the entries and the ends
logs_again : (at c : ℕ) (logs : List (List Record)) → logs_to at (ends_from at logs) (entries_from c logs) ≡ logs
logs_again at c [] = refl
logs_again at c (log ∷ logs) =
    let front = core_entries c 0 log in
    let rest = entries_from (suc c) logs in
    let many : length front ≡ at + length log - at = length-core_entries c 0 log ∙ (let z : length log ≡ at + length log - at = omega arith in z) in
    let first : map (λ (e : Entry). e.logged) (take (at + length log - at) (front ++ rest)) ≡ log = ap (map (λ (e : Entry). e.logged)) (take_at front rest _ many) ∙ records_again c 0 log in
    ap (λ l. l ∷ logs_to (at + length log) (ends_from (at + length log) logs) (drop (at + length log - at) (front ++ rest))) first
    ∙ ap (λ es. log ∷ logs_to (at + length log) (ends_from (at + length log) logs) es) (drop_at front rest _ many)
    ∙ ap (λ ls. log ∷ ls) (logs_again (at + length log) (suc c) logs)

pub kept_again : (list : List Entry) (ends : List ℕ) (logs : List (List Record)) → KeepsLogs list ends logs → logs_to 0 ends list ≡ logs
kept_again list ends logs h = ap (λ es. logs_to 0 ends es) h.all ∙ ap (λ ks. logs_to 0 ks (entries logs)) h.places ∙ logs_again 0 0 logs

-- the end of one more log
ends_from-push : (at c : ℕ) (logs : List (List Record)) (log : List Record)
    → ends_from at (logs ++ log ∷ []) ≡ ends_from at logs ++ (at + length (entries_from c logs) + length log) ∷ []
ends_from-push at c [] log = ap (λ (n : ℕ). n ∷ []) (let z : at + length log ≡ at + 0 + length log = omega arith in z)
ends_from-push at c (x ∷ xs) log =
    let long = length-append (core_entries c 0 x) (entries_from (suc c) xs) in
    ap (λ (ns : List ℕ). (at + length x) ∷ ns) (ends_from-push (at + length x) (suc c) xs log)
    ∙ ap (λ (n : ℕ). (at + length x) ∷ (ends_from (at + length x) xs ++ n ∷ []))
    (let z : at + length x + length (entries_from (suc c) xs) + length log ≡ at + length (entries_from c (x ∷ xs)) + length log = omega (arith, long, length-core_entries c 0 x) in z)

-- one more log is kept
pub log_kept : (list new : List Entry) (ends more : List ℕ) (logs : List (List Record)) (log : List Record) (core : ℕ)
    → KeepsLogs list ends logs → core ≡ length logs → new ≡ list ++ core_entries core 0 log → more ≡ ends ++ length new ∷ []
    → KeepsLogs new more (logs ++ log ∷ [])
log_kept list new ends more logs log core h at read pushed =
    let core-is : core ≡ 0 + length logs = omega (arith, at) in
    let all : new ≡ entries logs ++ core_entries core 0 log = read ∙ ap (λ es. es ++ core_entries core 0 log) h.all in
    let long : length new ≡ 0 + length (entries logs) + length log =
    omega (arith, ap length all, length-append (entries logs) (core_entries core 0 log), length-core_entries core 0 log) in
    record {
      all =
          all ∙ ap (λ (n : ℕ). entries logs ++ core_entries n 0 log) core-is
          ∙ sym (entries_from-push 0 logs log);
      places =
          pushed ∙ ap (λ (ns : List ℕ). ns ++ length new ∷ []) h.places
          ∙ ap (λ (n : ℕ). ends_from 0 logs ++ n ∷ []) long ∙ sym (ends_from-push 0 0 logs log);
    }

-- what is kept of logs is kept of those that are read back
pub set_made : (list : List Entry) (ends : List ℕ) (logs : List (List Record)) → KeepsLogs list ends logs → IsLogSet logs
    → KeepsLogs list ends (logs_to 0 ends list) × IsLogSet (logs_to 0 ends list)
set_made list ends logs h set =
    subst (λ (ls : List (List Record)). KeepsLogs list ends ls × IsLogSet ls) (sym (kept_again list ends logs h)) (h, set)

-- ---- where the entries of a log are

pub length-ends_from : (at : ℕ) (logs : List (List Record)) → length (ends_from at logs) ≡ length logs
length-ends_from at [] = refl
length-ends_from at (log ∷ logs) = ap suc (length-ends_from (at + length log) logs)

end_of : (at : ℕ) (logs : List (List Record)) (k : ℕ) (log : List Record) → slice_get logs k ≡ Some log
    → slice_get (ends_from at logs) k ≡ Some (at + start_in logs k + length log)
end_of at [] k log h = cc
end_of at (x ∷ xs) zero log h =
    let x-is : x ≡ log = cc in
    ap (λ n. Some n) (let z : at + length x ≡ at + 0 + length log = omega (arith, ap length x-is) in z)
end_of at (x ∷ xs) (suc k) log h =
    end_of (at + length x) xs k log h
    ∙ ap (λ n. Some n) (let z : at + length x + start_in xs k + length log ≡ at + (length x + start_in xs k) + length log = omega arith in z)

entries_of : (c : ℕ) (logs : List (List Record)) (k : ℕ) (log : List Record) → slice_get logs k ≡ Some log
    → take (length log) (drop (start_in logs k) (entries_from c logs)) ≡ core_entries (c + k) 0 log
entries_of c [] k log h = cc
entries_of c (x ∷ xs) zero log h =
    let x-is : x ≡ log = cc in
    ap (λ l. take (length log) (core_entries c 0 l ++ entries_from (suc c) xs)) x-is
    ∙ take_at (core_entries c 0 log) (entries_from (suc c) xs) _ (length-core_entries c 0 log)
    ∙ ap (λ n. core_entries n 0 log) (let z : c ≡ c + 0 = omega arith in z)
entries_of c (x ∷ xs) (suc k) log h =
    ap (take (length log)) (sym (drop-drop (start_in xs k) (length x) (core_entries c 0 x ++ entries_from (suc c) xs))
    ∙ ap (drop (start_in xs k)) (drop_at (core_entries c 0 x) (entries_from (suc c) xs) _ (length-core_entries c 0 x)))
    ∙ entries_of (suc c) xs k log h
    ∙ ap (λ n. core_entries n 0 log) (let z : suc c + k ≡ c + suc k = omega arith in z)

end_within : (c : ℕ) (logs : List (List Record)) (k : ℕ) (log : List Record) → slice_get logs k ≡ Some log
    → start_in logs k + length log ≤ length (entries_from c logs)
end_within c [] k log h = cc
end_within c (x ∷ xs) zero log h =
    let x-is : x ≡ log = cc in
    omega (arith, ap length x-is, length-core_entries c 0 x, length-append (core_entries c 0 x) (entries_from (suc c) xs))
end_within c (x ∷ xs) (suc k) log h =
    omega (arith, end_within (suc c) xs k log h, length-core_entries c 0 x, length-append (core_entries c 0 x) (entries_from (suc c) xs))

start_after : (logs : List (List Record)) (k : ℕ) (log : List Record) → slice_get logs k ≡ Some log
    → start_in logs (suc k) ≡ start_in logs k + length log
start_after [] k log h = cc
start_after (x ∷ xs) zero log h = let x-is : x ≡ log = cc in omega (arith, ap length x-is)
start_after (x ∷ xs) (suc k) log h = omega (arith, start_after xs k log h)

-- the entries of a log that is there, among all
pub record Found (list : List Entry) (logs : List (List Record)) (k end : ℕ) : Type 0 where
  pub log : List Record
  pub there : slice_get logs k ≡ Some log
  pub end_is : end ≡ start_in logs k + length log
  pub within : end ≤ length list
  pub part : take (end - start_in logs k) (drop (start_in logs k) list) ≡ core_entries k 0 log

module _ {list : List Entry} {ends : List ℕ} {logs : List (List Record)} where
  pub ends_many : KeepsLogs list ends logs → length ends ≡ length logs
  ends_many h = ap length h.places ∙ length-ends_from 0 logs

  pub found : KeepsLogs list ends logs → (k end : ℕ) → k < length ends → end ≡ get_or ends k end → Found list logs k end
  found h k end lt at =
      let below : k < length logs = omega (arith, lt, ends_many h) in
      let log = get_or logs k [] in
      let there = slice_get-get_or logs k [] below in
      let here : slice_get ends k ≡ Some end = slice_get_read ends (length ends) k end refl lt at in
      let places : slice_get ends k ≡ Some (0 + start_in logs k + length log) = ap (λ es. slice_get es k) h.places ∙ end_of 0 logs k log there in
      let end-at : end ≡ 0 + start_in logs k + length log = cc in
      let end-is : end ≡ start_in logs k + length log = omega (arith, end-at) in
      let many : end - start_in logs k ≡ length log = omega (arith, end-is) in
      record {
        log = log;
        there = there;
        end_is = end-is;
        within = omega (arith, end-is, ap length h.all, end_within 0 logs k log there);
        part = ap (λ n. take n (drop (start_in logs k) list)) many
            ∙ ap (λ es. take (length log) (drop (start_in logs k) es)) h.all
            ∙ entries_of 0 logs k log there
            ∙ ap (λ c. core_entries c 0 log) (let z : 0 + k ≡ k = omega arith in z);
      }

  -- the log after this one begins where this one ends
  pub next_start : KeepsLogs list ends logs → (k end : ℕ) → k < length ends → end ≡ get_or ends k end → end ≡ start_in logs (suc k)
  next_start h k end lt at = let f = found h k end lt at in f.end_is ∙ sym (start_after logs k f.log f.there)

  pub not_found : KeepsLogs list ends logs → (k : ℕ) → length ends ≤ k → slice_get logs k ≡ None
  not_found h k le = slice_get_past logs k (omega (arith, ends_many h, le))

-- the entries of a log, as the part from its start to its end
pub part_of : {list : List Entry} {logs : List (List Record)} (k end start : ℕ) → Found list logs k end → start ≡ start_in logs k
    → Some (take (end - start) (drop start list)) ≡ option_map (λ (log : List Record). core_entries k 0 log) (slice_get logs k)
part_of {list} k end start f s =
    ap (λ n. Some (take (end - n) (drop n list))) s ∙ ap (λ (es : List Entry). Some es) f.part
    ∙ sym (ap (option_map (λ (log : List Record). core_entries k 0 log)) f.there)

pub part_short : {list : List Entry} {logs : List (List Record)} {k end : ℕ} → IsLogSet logs → Found list logs k end → end - start_in logs k ≤ operation_limit
part_short {list} {logs} {k} {end} set f =
    let below = slice_get_within logs k f.log f.there in
    let is : get_or logs k [] ≡ f.log = get_or_from_slice_get logs k f.log [] f.there in
    let short : length (get_or logs k []) ≤ operation_limit = All-get_or (λ (log : List Record). length log ≤ operation_limit) logs k [] below set.short in
    omega (arith, f.end_is, short, ap length is)

-- what the set keeps is of its value
pub set_kept : (set : Inside) {logs : List (List Record)} → logs_in set ≡ logs → keeps_set set → KeepsLogs set.entries.items set.ends.items logs × IsLogSet logs
set_kept set is h =
    subst (λ (ls : List (List Record)). KeepsLogs set.entries.items set.ends.items ls × IsLogSet ls) is h

-- ---- one record more of the last core

pub one_kept : (core start : ℕ) (list new : List Entry) (e : Entry) (r : Record) → KeepsEntries core start list
    → e ≡ record { id = record { core = core; index = length list - start }; logged = r } → new ≡ list ++ e ∷ [] → KeepsEntries core start new
one_kept core start list new e r h is pushed =
    let records = records_after start list in
    let grown : drop start new ≡ drop start list ++ e ∷ [] = ap (drop start) pushed ∙ drop-append-le start list (e ∷ []) h.within in
    let e-logged : e.logged ≡ r = ap (λ (x : Entry). x.logged) is in
    let more : records_after start new ≡ records ++ r ∷ [] =
    ap (map (λ (x : Entry). x.logged)) grown ∙ map-append (λ (x : Entry). x.logged) (drop start list) (e ∷ [])
    ∙ ap (λ (x : Record). records ++ x ∷ []) e-logged in
    let many : length list - start ≡ 0 + length records = omega (arith, length-map (drop start list) (λ (x : Entry). x.logged), length-drop start list) in
    record {
      within = omega (arith, h.within, ap length pushed, length-append list (e ∷ []));
      own =
          grown ∙ ap (λ es. es ++ e ∷ []) h.own
          ∙ ap (λ (x : Entry). core_entries core 0 records ++ x ∷ []) is
          ∙ ap (λ (n : ℕ). core_entries core 0 records ++ record { id = record { core = core; index = n }; logged = r } ∷ []) many
          ∙ sym (core_entries-append core 0 records (r ∷ []))
          ∙ ap (core_entries core 0) (sym more);
    }
