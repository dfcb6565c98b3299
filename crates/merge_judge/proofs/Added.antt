-- Records by key, with one more that comes after all of them.
use Rattle.std.specs.Prelude.{◌≡◌, ℕ, zero, suc, ◌+◌, ◌*◌, ◌<◌, ◌≤◌, Bool, true, false, cond, List, [], ◌∷◌, ◌++◌, refl, length}
use Rattle.std.proofs.Common.{sym, ◌∙◌, ap, subst, inl, inr, arith, append_assoc, length-append}
use Rattle.std.specs.Ordering.{is_lt}
use Rattle.line_stamps.specs.Ordered.{In, insert_sorted, sorted}
use Rattle.line_stamps.proofs.Ordered.{In-sorted}
use Rattle.line_stamps.proofs.Order.{lt_asym}
use Rattle.log_record.specs.declared.record.Record.{Record}
use Rattle.log_record.specs.declared.record.Entry.{Entry}
use Rattle.log_record.specs.Entries.{core_entries, entries_from, entries, entry_cmp}
use Rattle.address_check.proofs.Totals.{entry_total}
use Rattle.log_file.proofs.Joined.{core_entries-append, length-core_entries}
use Rattle.verdict.specs.ByKey.{by_key}
use Rattle.merge_judge.specs.inner.Lanes.{add, entry_at, log_at}

-- ---- one more in order

insert_last : (e : Entry) (ys : List Entry) → ((y : Entry) → In y ys → is_lt (entry_cmp e y) ≡ false) → insert_sorted entry_cmp e ys ≡ ys ++ e ∷ []
insert_last e [] h = refl
insert_last e (y ∷ ys) h =
    ap (λ b. cond b (e ∷ y ∷ ys) (y ∷ insert_sorted entry_cmp e ys)) (h y (inl refl))
    ∙ ap (λ zs. y ∷ zs) (insert_last e ys (λ z p. h z (inr p)))

insert_before : (x e : Entry) (ys : List Entry) → is_lt (entry_cmp x e) ≡ true → insert_sorted entry_cmp x (ys ++ e ∷ []) ≡ insert_sorted entry_cmp x ys ++ e ∷ []
insert_before x e [] h = ap (λ b. cond b (x ∷ e ∷ []) (e ∷ x ∷ [])) h
insert_before x e (y ∷ ys) h = go (is_lt (entry_cmp x y)) (insert_before x e ys h)
  where
    go : (b : Bool) → insert_sorted entry_cmp x (ys ++ e ∷ []) ≡ insert_sorted entry_cmp x ys ++ e ∷ []
        → cond b (x ∷ y ∷ (ys ++ e ∷ [])) (y ∷ insert_sorted entry_cmp x (ys ++ e ∷ [])) ≡ cond b (x ∷ y ∷ ys) (y ∷ insert_sorted entry_cmp x ys) ++ e ∷ []
    go true ih = refl
    go false ih = ap (λ zs. y ∷ zs) ih

sorted_last : (xs ys : List Entry) (e : Entry) → ((x : Entry) → In x (xs ++ ys) → is_lt (entry_cmp x e) ≡ true) → sorted entry_cmp (xs ++ e ∷ ys) ≡ sorted entry_cmp (xs ++ ys) ++ e ∷ []
sorted_last [] ys e h = insert_last e (sorted entry_cmp ys) (λ y p. lt_asym entry_cmp entry_total y e (h y (In-sorted entry_cmp y ys p)))
sorted_last (x ∷ xs) ys e h =
    ap (insert_sorted entry_cmp x) (sorted_last xs ys e (λ z p. h z (inr p)))
    ∙ insert_before x e (sorted entry_cmp (xs ++ ys)) (h x (inl refl))

-- ---- one more record of a core

-- the entries before and after that of the record
pub record Split (base core : ℕ) (logs : List (List Record)) (r : Record) : Type 0 where
  pub front : List Entry
  pub back : List Entry
  pub old : entries_from base logs ≡ front ++ back
  pub new : entries_from base (add logs core r) ≡ front ++ entry_at (base + core) (length (log_at logs core)) r ∷ back

split : (base core : ℕ) (logs : List (List Record)) (r : Record) → core < length logs → Split base core logs r
split base core [] r l = absurd (omega arith)
split base zero (log ∷ logs) r l = record {
  front = core_entries base 0 log;
  back = entries_from (suc base) logs;
  old = refl;
  new = ap (λ es. es ++ entries_from (suc base) logs) (core_entries-append base 0 log (r ∷ []) ∙ ap (λ i. core_entries base 0 log ++ entry_at base i r ∷ []) (let e : 0 + length log ≡ length log = omega arith in e))
      ∙ append_assoc (core_entries base 0 log) (entry_at base (length log) r ∷ []) (entries_from (suc base) logs)
      ∙ ap (λ b. core_entries base 0 log ++ entry_at b (length log) r ∷ entries_from (suc base) logs) (let e : base ≡ base + 0 = omega arith in e);
}
split base (suc core) (log ∷ logs) r l =
    let t = split (suc base) core logs r (omega arith) in
    record {
      front = core_entries base 0 log ++ t.front;
      back = t.back;
      old = ap (λ es. core_entries base 0 log ++ es) t.old ∙ sym (append_assoc (core_entries base 0 log) t.front t.back);
      new = ap (λ es. core_entries base 0 log ++ es) t.new
          ∙ ap (λ b. core_entries base 0 log ++ (t.front ++ entry_at b (length (log_at logs core)) r ∷ t.back)) (let e : suc base + core ≡ base + suc core = omega arith in e)
          ∙ sym (append_assoc (core_entries base 0 log) t.front (entry_at (base + suc core) (length (log_at logs core)) r ∷ t.back));
    }

-- a record that comes after all of a set comes last by key
pub by_key_more : (logs : List (List Record)) (core : ℕ) (r : Record) → core < length logs
    → ((x : Entry) → In x (entries logs) → is_lt (entry_cmp x (entry_at core (length (log_at logs core)) r)) ≡ true)
    → by_key (add logs core r) ≡ by_key logs ++ entry_at core (length (log_at logs core)) r ∷ []
by_key_more logs core r l after =
    let t = split 0 core logs r l in
    let e = entry_at core (length (log_at logs core)) r in
    ap (sorted entry_cmp) (t.new ∙ ap (λ c. t.front ++ entry_at c (length (log_at logs core)) r ∷ t.back) (let z : 0 + core ≡ core = omega arith in z))
    ∙ sorted_last t.front t.back e (λ x p. after x (subst (λ es. In x es) (sym t.old) p))
    ∙ ap (λ es. sorted entry_cmp es ++ e ∷ []) (sym t.old)

-- ---- logs by place

pub add_long : (logs : List (List Record)) (core : ℕ) (r : Record) → length (add logs core r) ≡ length logs
add_long [] core r = refl
add_long (log ∷ logs) zero r = refl
add_long (log ∷ logs) (suc core) r = ap suc (add_long logs core r)

pub add_here : (logs : List (List Record)) (core : ℕ) (r : Record) → core < length logs → log_at (add logs core r) core ≡ log_at logs core ++ r ∷ []
add_here [] core r l = absurd (omega arith)
add_here (log ∷ logs) zero r l = refl
add_here (log ∷ logs) (suc core) r l = add_here logs core r (omega arith)

pub add_other : (logs : List (List Record)) (core k : ℕ) (r : Record) → (k ≡ core → ⊥) → log_at (add logs core r) k ≡ log_at logs k
add_other [] core k r other = refl
add_other (log ∷ logs) zero zero r other = absurd (other refl)
add_other (log ∷ logs) zero (suc k) r other = refl
add_other (log ∷ logs) (suc core) zero r other = refl
add_other (log ∷ logs) (suc core) (suc k) r other = add_other logs core k r (λ e. other (ap suc e))

pub entries_more : (logs : List (List Record)) (core : ℕ) (r : Record) → core < length logs → length (entries (add logs core r)) ≡ length (entries logs) + 1
entries_more logs core r l =
    let t = split 0 core logs r l in
    omega (arith, ap length t.old, ap length t.new, length-append t.front t.back, length-append t.front (entry_at (0 + core) (length (log_at logs core)) r ∷ t.back))

-- ---- how many entries there are

pub entries_few : (base most : ℕ) (logs : List (List Record)) → ((k : ℕ) → k < length logs → length (log_at logs k) ≤ most) → length (entries_from base logs) ≤ length logs * most
entries_few base most [] h = omega arith
entries_few base most (log ∷ logs) h =
    let rest = entries_few (suc base) most logs (λ k l. h (suc k) (omega arith)) in
    let first = h 0 (omega arith) in
    let long = length-append (core_entries base 0 log) (entries_from (suc base) logs) in
    let here = length-core_entries base 0 log in
    let times : suc (length logs) * most ≡ most + length logs * most = omega arith in
    omega (arith, rest, first, long, here, times)
