-- The states of a set, looked up.
use Rattle.std.specs.Prelude.{◌≡◌, ℕ, ◌+◌, ◌<◌, Bool, true, ◌||◌, List, [], ◌∷◌, refl, IsTrue, length, take}
use Rattle.std.specs.List.{list_any}
use Rattle.std.specs.Global.{Vec}
use Rattle.std.specs.BTreeSet.{BTreeSet, insert_key}
use Rattle.std.specs.Cmp.Lexicographic.{nat_list_cmp_total, slice_cmp}
use Rattle.std.specs.Ordering.{is_eq, nat_cmp, ordering_then}
use Rattle.std.specs.declared.cmp.Ordering.{Ordering}
use Rattle.std.specs.declared.cmp.Ordering.TheVariants.{Equal}
use Rattle.std.proofs.lemmas.Grind.{common_steps}
use Rattle.std.proofs.Common.{rules, arith, sym, ◌∙◌, ap, get_or}
use Rattle.std.proofs.Math.Bool.{or_comm}
use Rattle.std.proofs.lemmas.Cmp.{tied_itself}
use Rattle.std.proofs.lemmas.List.Folds.{Any-from_list_any, list_any_more}
use Rattle.std.proofs.lemmas.Map.Keys.{any_passes_from_place}
use Rattle.std.proofs.lemmas.Map.Lookups.{exact_bytes, exact_pairs}
use Rattle.std.proofs.lemmas.Map.Views.{tells_apart}
use Rattle.std.proofs.lemmas.Option.{slice_get_read}
use Rattle.refutation.specs.declared.state.State.{State}
use Rattle.refutation.specs.States.{next_of, words_of, Has}
use Rattle.refutation.specs.inner.Seen.{is_among}

-- ---- indices and words that are the same

abbrev pub by_lists : List ℕ → List ℕ → Ordering
by_lists = slice_cmp nat_cmp

abbrev pub same_as : List ℕ → List ℕ → List ℕ → List ℕ → Bool
same_as next words n v = is_eq (ordering_then (by_lists next n) (by_lists words v))

same-is : (next words n v : List ℕ) → same_as next words n v ≡ true → (next ≡ n) × (words ≡ v)
same-is next words n v e = search (rules, tells_apart, exact_pairs, exact_bytes)

same-self : (next words : List ℕ) → same_as next words next words ≡ true
same-self next words = search (rules, tied_itself nat_list_cmp_total)

-- ---- one key more

abbrev pub Key : Type 0
Key = Vec ℕ × Vec ℕ

abbrev pub by_keys : Key → Key → Ordering
by_keys j k = ordering_then (by_lists j.0.items k.0.items) (by_lists j.1.items k.1.items)

abbrev is_key : List ℕ → List ℕ → Key → Bool
is_key next words k = same_as next words k.0.items k.1.items

tied : (next words : List ℕ) (j k : Key) → by_keys j k ≡ Equal → is_key next words j ≡ is_key next words k
tied next words j k e = search (rules, same-is)

any-insert : (test : Key → Bool) → ((j k : Key) → by_keys j k ≡ Equal → test j ≡ test k) → (key : Key) (keys : List Key) → list_any test (insert_key by_keys keys key) ≡ (test key || list_any test keys)
any-insert test tie key [] = refl
any-insert test tie key (k ∷ keys) = let later = any-insert test tie key keys in let same = tie key k in grind (arith, common_steps)

-- the states so far
abbrev pub is_state : List ℕ → List ℕ → State → Bool
is_state next words state = same_as next words (next_of state) (words_of state)

pub among-more : (keys more : BTreeSet Key) (key : Key) (states : List State) (k : ℕ) (state : State) → more.keys ≡ insert_key by_keys keys.keys key → k < length states → state ≡ get_or states k state
    → key.0.items ≡ next_of state → key.1.items ≡ words_of state
    → ((next words : List ℕ) → is_among keys next words ≡ list_any (is_state next words) (take k states)) → (next words : List ℕ) → is_among more next words ≡ list_any (is_state next words) (take (k + 1) states)
among-more keys more key states k state inserted l is next_is words_is so_far next words =
    let turned : (is_key next words key || is_among keys next words) ≡ (list_any (is_state next words) (take k states) || is_state next words state) =
    rw (so_far next words, next_is, words_is) (or_comm (is_state next words state) (list_any (is_state next words) (take k states))) in
    ap (list_any (is_key next words)) inserted ∙ any-insert (is_key next words) (tied next words) key keys.keys ∙ turned
    ∙ ap (λ s. list_any (is_state next words) (take k states) || is_state next words s) is ∙ sym (list_any_more (is_state next words) states k state l)

-- ---- all states

any-has : (next words : List ℕ) (states : List State) → list_any (is_state next words) states ≡ true → Has states next words
any-has next words states e =
    let any = Any-from_list_any (is_state next words) states e in
    let same = same-is next words (next_of any.1) (words_of any.1) any.4 in
    record { number = any.0; state = any.1; there = slice_get_read states (length states) any.0 any.1 refl any.2 (sym any.3); next_is = sym same.0; words_is = sym same.1 }

pub all-among : (keys : BTreeSet Key) (states : List State) → ((next words : List ℕ) → is_among keys next words ≡ list_any (is_state next words) states)
    → (next words : List ℕ) → (IsTrue (is_among keys next words) → Has states next words) × (Has states next words → IsTrue (is_among keys next words))
all-among keys states all next words = search (rules, any-has, any_passes_from_place, same-self)
