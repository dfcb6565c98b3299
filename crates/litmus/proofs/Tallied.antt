-- Outcomes counted one by one.
use Rattle.std.proofs.Common.{◌≡◌, ℕ, ◌+◌, ◌≤◌, Bool, true, false, cond, List, [], ◌∷◌, ◌++◌, length, map, refl, sym, ap, subst, ◌∙◌, arith, length-append}
use Rattle.std.specs.Prelude.{if◌then◌else◌, Option, Some}
use Rattle.std.specs.Global.{Vec}
use Rattle.std.specs.BTreeMap.{insert_entry, is_at}
use Rattle.std.specs.Map.{lookup}
use Rattle.std.specs.Option.{option_map_or}
use Rattle.std.specs.Cmp.Lexicographic.{nat_list_cmp_total, same_text, slice_cmp, texts_ties}
use Rattle.std.specs.List.{AllByRecursion, filter}
use Rattle.std.specs.List.Sorted.{IsStrictlySortedBy}
use Rattle.std.specs.Ordering.{is_eq, match_ordering, nat_cmp, ordering_reverse}
use Rattle.std.specs.declared.cmp.Ordering.{Ordering}
use Rattle.std.specs.declared.cmp.Ordering.TheVariants.{Less, Equal, Greater}
use Rattle.std.proofs.lemmas.List.Elements.{filter-append}
use Rattle.litmus.specs.Outcomes.{is_forbidden, is_outcome}
use Rattle.litmus.specs.Collecting.{AreAscending, AreRowsOf, IsRowOf, count_of, total}
use Rattle.litmus.specs.Parts.{LitmusParts}
use Rattle.litmus.specs.TableParts.{RowParts}
use Rattle.litmus.specs.inner.Tallies.{IsTally, count_in, counted, sum_in}

abbrev order : List ℕ → List ℕ → Ordering
order = slice_cmp nat_cmp

-- ---- outcomes that are one

same : (v w : List ℕ) → is_outcome v w ≡ true → v ≡ w
same v w e = same_text v w (sym e)

itself : (v : List ℕ) → is_outcome v v ≡ true
itself v = texts_ties v v ∙ ap is_eq (reflexive (order v v) (nat_list_cmp_total.antisymm v v))
  where
    reflexive : (o : Ordering) → o ≡ ordering_reverse o → o ≡ Equal
    reflexive Less e = absurd cc
    reflexive Equal e = refl
    reflexive Greater e = absurd cc

tied : (v w : List ℕ) → order v w ≡ Equal → v ≡ w
tied v w e = same v w (texts_ties v w ∙ ap is_eq e)

below_other : (v w : List ℕ) → order v w ≡ Less → is_outcome v w ≡ false
below_other v w e = texts_ties v w ∙ ap is_eq e

above_other : (v w : List ℕ) → order v w ≡ Greater → is_outcome v w ≡ false
above_other v w e = texts_ties v w ∙ ap is_eq e

-- ---- one more outcome

pub count_of-push : (v o : List ℕ) (os : List (List ℕ)) → count_of v (os ++ o ∷ []) ≡ count_of v os + (if is_outcome v o then 1 else 0)
count_of-push v o os =
    ap length (filter-append (is_outcome v) os (o ∷ []))
    ∙ length-append (filter (is_outcome v) os) (filter (is_outcome v) (o ∷ []))
    ∙ ap (λ n. length (filter (is_outcome v) os) + n) (one (is_outcome v o))
  where
    one : (b : Bool) → length (if b then o ∷ [] else []) ≡ (if b then 1 else 0)
    one true = refl
    one false = refl

-- an outcome's count put into its place
abbrev put : List ℕ → ℕ → List (List ℕ × ℕ) → List (List ℕ × ℕ)
put v n [] = (v, n) ∷ []
put v n (e ∷ es) = match_ordering (order v e.0) ((v, n) ∷ e ∷ es) ((e.0, n) ∷ es) (e ∷ put v n es)

-- ascending outcomes
abbrev Ascends : List (List ℕ × ℕ) → Type 0
Ascends [] = Unit {0}
Ascends (e ∷ es) = AllByRecursion (λ f. order e.0 f.0 ≡ Less) es × Ascends es

count_in-put : (w v : List ℕ) (n : ℕ) (es : List (List ℕ × ℕ)) → count_in w (put v n es) ≡ (if is_outcome w v then n else count_in w es)
count_in-put w v n [] = refl
count_in-put w v n (e ∷ es) = go (count_in-put w v n es) (order v e.0) refl
  where
    both : (b : Bool) → (if b then n else count_in w es) ≡ (if b then n else (if b then e.1 else count_in w es))
    both true = refl
    both false = refl

    apart : order v e.0 ≡ Greater → (a b : Bool) → is_outcome w e.0 ≡ a → is_outcome w v ≡ b
        → (if a then e.1 else (if b then n else count_in w es)) ≡ (if b then n else (if a then e.1 else count_in w es))
    apart is true true p q =
        let one : v ≡ e.0 = sym (same w v q) ∙ same w e.0 p in
        let wrong : is_outcome v e.0 ≡ true = subst (λ (x : List ℕ). is_outcome v x ≡ true) one (itself v) in
        let other : is_outcome v e.0 ≡ false = above_other v e.0 is in
        absurd (let clash : true ≡ false = sym wrong ∙ other in cc)
    apart is true false p q = refl
    apart is false true p q = refl
    apart is false false p q = refl

    go : count_in w (put v n es) ≡ (if is_outcome w v then n else count_in w es) → (o : Ordering) → order v e.0 ≡ o
        → count_in w (match_ordering o ((v, n) ∷ e ∷ es) ((e.0, n) ∷ es) (e ∷ put v n es)) ≡ (if is_outcome w v then n else (if is_outcome w e.0 then e.1 else count_in w es))
    go before Less is = refl
    go before Equal is = let one : v ≡ e.0 = tied v e.0 is in rw (sym one) (both (is_outcome w v))
    go before Greater is = rw before (apart is (is_outcome w e.0) (is_outcome w v) refl refl)

-- an outcome below all of these isn't among them
absent : (v : List ℕ) (es : List (List ℕ × ℕ)) → AllByRecursion (λ f. order v f.0 ≡ Less) es → count_in v es ≡ 0
absent v [] below = refl
absent v (e ∷ es) below = rw (below_other v e.0 below.0) (absent v es below.1)

below_all : (v : List ℕ) (e : List ℕ × ℕ) (es : List (List ℕ × ℕ)) → order v e.0 ≡ Less → AllByRecursion (λ f. order e.0 f.0 ≡ Less) es → AllByRecursion (λ f. order v f.0 ≡ Less) es
below_all v e [] less above = tt
below_all v e (f ∷ es) less above = (nat_list_cmp_total.trans v e.0 f.0 less above.0, below_all v e es less above.1)

sum_in-put : (v : List ℕ) (n : ℕ) (es : List (List ℕ × ℕ)) → Ascends es → n ≡ count_in v es + 1 → sum_in (put v n es) ≡ sum_in es + 1
sum_in-put v n [] up is = omega (arith, is)
sum_in-put v n (e ∷ es) up is = go (λ here. sum_in-put v n es up.1 here) (order v e.0) refl
  where
    go : (n ≡ count_in v es + 1 → sum_in (put v n es) ≡ sum_in es + 1) → (o : Ordering) → order v e.0 ≡ o → sum_in (match_ordering o ((v, n) ∷ e ∷ es) ((e.0, n) ∷ es) (e ∷ put v n es)) ≡ e.1 + sum_in es + 1
    go before Less less =
        let none : count_in v (e ∷ es) ≡ 0 = absent v (e ∷ es) (less, below_all v e es less up.0) in
        omega (arith, is, none)
    go before Equal tie =
        let one : is_outcome v e.0 ≡ true = subst (λ (x : List ℕ). is_outcome v x ≡ true) (tied v e.0 tie) (itself v) in
        let here : count_in v (e ∷ es) ≡ e.1 = rw one refl in
        omega (arith, is, here)
    go before Greater greater =
        let other : count_in v (e ∷ es) ≡ count_in v es = rw (above_other v e.0 greater) refl in
        omega (arith, before (is ∙ ap (λ k. k + 1) other))

some-put : (v : List ℕ) (n : ℕ) (es : List (List ℕ × ℕ)) → 1 ≤ n → AllByRecursion (λ e. 1 ≤ e.1) es → AllByRecursion (λ e. 1 ≤ e.1) (put v n es)
some-put v n [] some each = (some, tt)
some-put v n (e ∷ es) some each = go (some-put v n es some each.1) (order v e.0)
  where
    go : AllByRecursion (λ f. 1 ≤ f.1) (put v n es) → (o : Ordering) → AllByRecursion (λ f. 1 ≤ f.1) (match_ordering o ((v, n) ∷ e ∷ es) ((e.0, n) ∷ es) (e ∷ put v n es))
    go before Less = (some, each)
    go before Equal = (some, each.1)
    go before Greater = (each.0, before)

-- ---- the entries of a map

abbrev pub by_items : Vec ℕ → Vec ℕ → Ordering
by_items x y = slice_cmp nat_cmp x.items y.items

counted-insert : (k : Vec ℕ) (n : ℕ) (es : List (Vec ℕ × ℕ)) → counted (insert_entry by_items es k n) ≡ put k.items n (counted es)
counted-insert k n [] = refl
counted-insert k n (e ∷ es) = go (counted-insert k n es) (by_items k e.0)
  where
    go : counted (insert_entry by_items es k n) ≡ put k.items n (counted es) → (o : Ordering) → counted (match_ordering o ((k, n) ∷ e ∷ es) ((e.0, n) ∷ es) (e ∷ insert_entry by_items es k n))
        ≡ match_ordering o ((k.items, n) ∷ counted (e ∷ es)) ((e.0.items, n) ∷ counted es) ((e.0.items, e.1) ∷ put k.items n (counted es))
    go before Less = refl
    go before Equal = refl
    go before Greater = ap (λ (fs : List (List ℕ × ℕ)). (e.0.items, e.1) ∷ fs) before

ascends : (es : List (Vec ℕ × ℕ)) → IsStrictlySortedBy by_items (map (λ e. e.0) es) → Ascends (counted es)
unfolding IsStrictlySortedBy
ascends [] up = tt
ascends (e ∷ es) up = (above es up.0, ascends es up.1)
  where
    above : (fs : List (Vec ℕ × ℕ)) → AllByRecursion (λ y. by_items e.0 y ≡ Less) (map (λ f. f.0) fs) → AllByRecursion (λ f. order e.0.items f.0 ≡ Less) (counted fs)
    above [] all = tt
    above (f ∷ fs) all = (all.0, above fs all.1)

pub one_more : (outcomes : List (List ℕ)) (old new : List (Vec ℕ × ℕ)) (k : Vec ℕ) → IsStrictlySortedBy by_items (map (λ e. e.0) old)
    → new ≡ insert_entry by_items old k (count_in k.items (counted old) + 1) → IsTally outcomes old → IsTally (outcomes ++ k.items ∷ []) new
one_more outcomes old new k up is tally =
    let n = count_in k.items (counted old) + 1 in
    let put-is : counted new ≡ put k.items n (counted old) = ap counted is ∙ counted-insert k n old in
    record {
      count = λ v. ap (count_in v) put-is ∙ count_in-put v k.items n (counted old) ∙ by_one v (is_outcome v k.items) refl ∙ sym (count_of-push v k.items outcomes);
      sum = ap sum_in put-is ∙ sum_in-put k.items n (counted old) (ascends old up) refl ∙ omega (arith, tally.sum, length-append outcomes (k.items ∷ []));
      some = subst (λ (es : List (List ℕ × ℕ)). AllByRecursion (λ e. 1 ≤ e.1) es) (sym put-is) (some-put k.items n (counted old) (omega arith) tally.some);
    }
  where
    by_one : (v : List ℕ) (b : Bool) → is_outcome v k.items ≡ b
        → (if b then count_in k.items (counted old) + 1 else count_in v (counted old)) ≡ count_of v outcomes + (if b then 1 else 0)
    by_one v true e = let one : v ≡ k.items = same v k.items e in rw one (ap (λ m. m + 1) (tally.count k.items))
    by_one v false e = omega (arith, tally.count v)

pub none_counted : IsTally [] []
none_counted = record { count = λ v. refl; sum = refl; some = tt }

count_few : (v : List ℕ) (es : List (List ℕ × ℕ)) → count_in v es ≤ sum_in es
count_few v [] = omega arith
count_few v (e ∷ es) = go (count_few v es) (is_outcome v e.0)
  where
    go : count_in v es ≤ sum_in es → (b : Bool) → (if b then e.1 else count_in v es) ≤ e.1 + sum_in es
    go before true = omega arith
    go before false = omega (arith, before)

-- a key that was looked up
pub count_found : (v : Vec ℕ) (es : List (Vec ℕ × ℕ)) (o : Option ℕ) → o ≡ lookup (is_at (by_items v)) es → option_map_or (λ n. n) o 0 ≡ count_in v.items (counted es)
count_found v es o is = ap (λ p. option_map_or (λ n. n) p 0) is ∙ found es
  where
    step : (e : Vec ℕ × ℕ) (b c : Bool) (rest : Option ℕ) (n : ℕ) → c ≡ b → option_map_or (λ m. m) rest 0 ≡ n
        → option_map_or (λ m. m) (cond b (Some e.1) rest) 0 ≡ (if c then e.1 else n)
    step e true true rest n same h = refl
    step e false false rest n same h = h
    step e true false rest n same h = absurd cc
    step e false true rest n same h = absurd cc

    found : (fs : List (Vec ℕ × ℕ)) → option_map_or (λ n. n) (lookup (is_at (by_items v)) fs) 0 ≡ count_in v.items (counted fs)
    found [] = refl
    found (f ∷ fs) = step f (is_at (by_items v) f.0) (is_outcome v.items f.0.items) (lookup (is_at (by_items v)) fs) (count_in v.items (counted fs)) (texts_ties v.items f.0.items) (found fs)

-- no count is greater than all outcomes
pub count_most : (v : List ℕ) (outcomes : List (List ℕ)) (es : List (Vec ℕ × ℕ)) → IsTally outcomes es → count_in v (counted es) ≤ length outcomes
count_most v outcomes es tally = omega (arith, count_few v (counted es), tally.sum)

-- ---- the rows

abbrev pub row_of : LitmusParts → List ℕ × ℕ → RowParts
row_of t e = record { values = e.0; count = e.1; forbidden = is_forbidden t e.0 }

-- each outcome that ascends is counted where it stands
counted_there : (es : List (List ℕ × ℕ)) → Ascends es → AllByRecursion (λ e. count_in e.0 es ≡ e.1) es
counted_there [] up = tt
counted_there (e ∷ es) up = (rw (itself e.0) refl, further es up.0 (counted_there es up.1))
  where
    further : (fs : List (List ℕ × ℕ)) → AllByRecursion (λ f. order e.0 f.0 ≡ Less) fs → AllByRecursion (λ f. count_in f.0 es ≡ f.1) fs
        → AllByRecursion (λ f. count_in f.0 (e ∷ es) ≡ f.1) fs
    further [] above all = tt
    further (f ∷ fs) above all =
        let greater : order f.0 e.0 ≡ Greater = nat_list_cmp_total.antisymm f.0 e.0 ∙ ap ordering_reverse above.0 in
        (rw (above_other f.0 e.0 greater) all.0, further fs above.1 all.1)

rows_each : (t : LitmusParts) (outcomes : List (List ℕ)) (all es : List (List ℕ × ℕ)) → ((v : List ℕ) → count_in v all ≡ count_of v outcomes)
    → AllByRecursion (λ e. count_in e.0 all ≡ e.1) es → AllByRecursion (λ e. 1 ≤ e.1) es → AllByRecursion (IsRowOf t outcomes) (map (row_of t) es)
rows_each t outcomes all [] counts there some = tt
rows_each t outcomes all (e ∷ es) counts there some =
    (record { some = some.0; count = sym there.0 ∙ counts e.0; forbidden = refl }, rows_each t outcomes all es counts there.1 some.1)

rows_ascend : (t : LitmusParts) (es : List (List ℕ × ℕ)) → Ascends es → AreAscending (map (row_of t) es)
rows_ascend t [] up = tt
rows_ascend t (e ∷ []) up = tt
rows_ascend t (e ∷ f ∷ es) up = (up.0.0, rows_ascend t (f ∷ es) up.1)

rows_total : (t : LitmusParts) (es : List (List ℕ × ℕ)) → total (map (row_of t) es) ≡ sum_in es
rows_total t [] = refl
rows_total t (e ∷ es) = ap (λ n. e.1 + n) (rows_total t es)

pub all_rows : (t : LitmusParts) (outcomes : List (List ℕ)) (es : List (Vec ℕ × ℕ)) (rows : List RowParts) → IsStrictlySortedBy by_items (map (λ e. e.0) es)
    → rows ≡ map (row_of t) (counted es) → IsTally outcomes es → AreRowsOf t outcomes rows
all_rows t outcomes es rows up is tally =
    let ascend = ascends es up in
    subst (AreRowsOf t outcomes) (sym is) (record {
      each = rows_each t outcomes (counted es) (counted es) tally.count (counted_there (counted es) ascend) tally.some;
      ascending = rows_ascend t (counted es) ascend;
      all = rows_total t (counted es) ∙ tally.sum;
    })

-- entries that were gone through are all
pub gone_through : (xs es : List (Vec ℕ × ℕ)) → map (λ x. x) xs ≡ es → xs ≡ es
gone_through xs es is = sym (all xs) ∙ is
  where
    all : (ys : List (Vec ℕ × ℕ)) → map (λ x. x) ys ≡ ys
    all [] = refl
    all (y ∷ ys) = ap (λ (zs : List (Vec ℕ × ℕ)). y ∷ zs) (all ys)
