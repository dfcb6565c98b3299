-- The states that can be reached: those that the first operations of some order lead to.
use Rattle.std.specs.Prelude.{◌≡◌, ◌⊎◌, ℕ, zero, suc, ◌+◌, ◌<◌, ◌≤◌, true, List, [], ◌∷◌, ◌++◌, Some, map, length, take, drop, slice_get, slice_index, slice_set, refl}
use Rattle.std.specs.List.{prefix_len, range_with_len}
use Rattle.std.proofs.Common.{sym, ◌∙◌, ap, subst, inl, inr, arith, get_or}
use Rattle.std.proofs.Math.ListN.{get_or-map}
use Rattle.std.proofs.lemmas.Bool.{cases_order}
use Rattle.std.proofs.lemmas.Bool.Decides.{nat_tests}
use Rattle.std.proofs.lemmas.List.{get_or-set_same, length-set, length-map, length-drop, take_all, set-get_or, set-set, get_or-drop}
use Rattle.std.proofs.lemmas.List.Sums.{prefix_len-le-length, prefix_len_passes}
use Rattle.std.proofs.lemmas.Option.{same_Some, slice_get-get_or, slice_get_within}
use Rattle.line_stamps.proofs.Ids.{same_id}
use Rattle.mem_op.specs.declared.id.OpId.{OpId}
use Rattle.mem_op.specs.Consistency.{Operation, Stored, operation_at, word_left}
use Rattle.flat_replay.specs.Accesses.{address_of}
use Rattle.flat_replay.specs.Memory.{after}
use Rattle.flat_replay.proofs.Replaying.{Replayed, replayed-more}
use Rattle.flat_replay.proofs.Turns.{within_cores}
use Rattle.refutation.specs.States.{word_of, put_word, fits, passes, settled, next_id}
use Rattle.refutation.proofs.Runs.{raised, below-raised, fits-read, fits-answered}
use Rattle.refutation.proofs.Settled.{words_after, right-after, word-zero, passes-is, passing, at-core, more-settled}

put-same : (addresses words : List ℕ) (addr w : ℕ) → word_of addresses words addr ≡ Some w → put_word addresses words addr w ≡ words
put-same [] words addr w e = refl
put-same (a ∷ addresses) [] addr w e = absurd cc
put-same (a ∷ addresses) (v ∷ words) addr w e = let later = put-same addresses words addr w in grind (arith, nat_tests)

length-put : (addresses words : List ℕ) (addr w : ℕ) → length addresses ≡ length words → length addresses ≡ length (put_word addresses words addr w)
length-put [] words addr w e = e
length-put (a ∷ addresses) [] addr w e = absurd (omega arith)
length-put (a ∷ addresses) (v ∷ words) addr w e = let later = length-put addresses words addr w (omega arith) in grind arith

-- the indices at which settling some of the cores leaves the others
unsettled : (addresses words : List ℕ) (some : List (List Operation)) (next : List ℕ) (k : ℕ) → slice_index (settled addresses words (take k some) next) k ≡ slice_index next k
unsettled addresses words some next zero = refl
unsettled addresses words [] next (suc k) = refl
unsettled addresses words (zs ∷ some) [] (suc k) = refl
unsettled addresses words (zs ∷ some) (n ∷ next) (suc k) = unsettled addresses words some next k

module _ (cores : List (List Operation)) (addresses : List ℕ) where
  -- the first operations of an order lead to a state
  pub record Reached (next words : List ℕ) : Type 0 where
    pub ids : List OpId
    pub memory : ℕ → ℕ
    pub many : length next ≡ length cores
    pub size : length addresses ≡ length words
    pub ran : Replayed cores ids next memory
    pub right : (a w : ℕ) → word_of addresses words a ≡ Some w → w ≡ memory a
    pub there : (id : OpId) → id.index < slice_index next id.core → (y : Operation) × (operation_at cores id ≡ Some y)

  pub reach-more : (next words : List ℕ) → Reached next words → (core : ℕ) (y : Operation) → operation_at cores (next_id next core) ≡ Some y
      → fits (word_of addresses words (address_of y)) y ≡ true → Reached (raised next core) (words_after addresses words y)
  reach-more next words reached core y there fit =
      let many = reached.many in
      let within : core < length next = (let l = within_cores cores (next_id next core) y (sym there) in omega arith) in
      let is = fits-answered reached.memory y (word_of addresses words (address_of y)) (reached.right (address_of y)) fit in
      let after_y = after y reached.memory in
      record {
        ids = reached.ids ++ next_id next core ∷ [];
        memory = after_y;
        many = length-set next core (slice_index next core + 1) ∙ many;
        size = length-put addresses words (address_of y) (word_left y) reached.size;
        ran = replayed-more cores reached.ids next reached.memory after_y (next_id next core) y reached.ran (sym there) within refl is (λ a. refl);
        right = right-after addresses words reached.memory y is reached.right;
        there = λ id low. elim (below-raised next core id.core id.index within low) [
          | inl below ↦ reached.there id below
          | inr same ↦ (y, ap (operation_at cores) (same_id id (next_id next core) same.0 same.1) ∙ there)
        ];
      }

  -- ---- settling

  -- each operation is looked at
  abbrev pub LookedAt : List ℕ → Type 0
  LookedAt words = (id : OpId) (y : Operation) → operation_at cores id ≡ Some y → (w : ℕ) × (word_of addresses words (address_of y) ≡ Some w)

  -- an operation that passes leads to a state of the same words
  reach-pass : (next words : List ℕ) → Reached next words → LookedAt words → (core : ℕ) (y : Operation)
      → operation_at cores (next_id next core) ≡ Some y → passing addresses words y ≡ true → Reached (raised next core) words
  reach-pass next words reached looked core y there pass =
      let w = looked (next_id next core) y there in
      let is = passes-is w.0 y (ap (λ o. passes o y) (sym w.1) ∙ pass) in
      subst (Reached (raised next core)) (put-same addresses words (address_of y) (word_left y) (w.1 ∙ ap Some (sym is.1)))
      (reach-more next words reached core y there (ap (λ o. fits o y) w.1 ∙ fits-read w.0 y (λ v read. same_Some v w.0 (sym read ∙ is.0))))

  settle-core : (words : List ℕ) → LookedAt words → (core : ℕ) (ys : List Operation) → slice_get cores core ≡ Some ys → (next : List ℕ) → Reached next words
      → (k : ℕ) → k ≤ prefix_len (passing addresses words) (drop (slice_index next core) ys) → Reached (slice_set next core (slice_index next core + k)) words
  settle-core words looked core ys own next reached zero l =
      subst (λ xs. Reached xs words) (sym (ap (slice_set next core) (let e : slice_index next core + 0 ≡ slice_index next core = omega arith in e) ∙ set-get_or next core 0)) reached
  settle-core words looked core ys own next reached (suc k) l =
      let n = slice_index next core in
      let far = slice_set next core (n + k) in
      let most = prefix_len-le-length (passing addresses words) (drop n ys) in
      let below : n + k < length ys = omega (arith, length-drop n ys) in
      let y = get_or ys (n + k) (Stored 0 0) in
      let within = slice_get_within cores core ys own in
      let many = reached.many in
      let here : slice_index far core ≡ n + k = get_or-set_same next core (n + k) 0 (omega arith) in
      let there = at-core cores core (slice_index far core) ys own ∙ ap (slice_get ys) here ∙ slice_get-get_or ys (n + k) (Stored 0 0) below in
      let pass = ap (passing addresses words) (sym (get_or-drop n ys k (Stored 0 0))) ∙ prefix_len_passes (passing addresses words) (drop n ys) k (Stored 0 0) (omega arith) in
      subst (λ xs. Reached xs words)
      (ap (λ m. slice_set far core (m + 1)) here ∙ set-set next core (n + k) (n + k + 1) ∙ ap (slice_set next core) (let e : n + k + 1 ≡ n + suc k = omega arith in e))
      (reach-pass far words (settle-core words looked core ys own next reached k (omega arith)) looked core y there pass)

  reach-settling : (next words : List ℕ) → Reached next words → LookedAt words → (k : ℕ) → k ≤ length cores → Reached (settled addresses words (take k cores) next) words
  reach-settling next words reached looked zero l = reached
  reach-settling next words reached looked (suc k) l =
      let ys = get_or cores k [] in
      let own = slice_get-get_or cores k [] (omega arith) in
      let so_far = settled addresses words (take k cores) next in
      subst (λ xs. Reached xs words)
      (ap (λ n. slice_set so_far k (n + prefix_len (passing addresses words) (drop n ys))) (unsettled addresses words cores next k) ∙ sym (more-settled addresses words cores next k ys own))
      (settle-core words looked k ys own so_far (reach-settling next words reached looked k (omega arith)) _ (omega arith))

  pub reach-settled : (next words : List ℕ) → Reached next words → LookedAt words → Reached (settled addresses words cores next) words
  reach-settled next words reached looked =
      subst (λ cs. Reached (settled addresses words cs next) words) (take_all (length cores) cores (omega arith)) (reach-settling next words reached looked (length cores) (omega arith))

  pub reach-first : Reached (map (λ _. 0) cores) (map (λ _. 0) addresses)
  reach-first = record {
    ids = [];
    memory = λ a. 0;
    many = length-map cores (λ _. 0);
    size = sym (length-map addresses (λ _. 0));
    ran = record {
      turn = λ core. ap (range_with_len 0) (sym (get_or-map (λ _. 0) cores core []));
      flat = record { loads = λ k addr value e. absurd cc; swaps = λ k addr read stored e. absurd cc };
      words = λ a. refl;
    };
    right = λ a w e. word-zero addresses a w e;
    there = λ id low. absurd (let e : slice_index (map (λ _. 0) cores) id.core ≡ 0 = get_or-map (λ _. 0) cores id.core [] in omega arith);
  }

-- where each operation below these indices is there, they are the ends of all cores, or some core has an operation left
pub some-left : (cores : List (List Operation)) (next : List ℕ) → length next ≡ length cores
    → ((id : OpId) → id.index < slice_index next id.core → (y : Operation) × (operation_at cores id ≡ Some y))
    → (next ≡ map length cores) ⊎ ((core : ℕ) × (y : Operation) × (operation_at cores (next_id next core) ≡ Some y))
some-left [] [] many there = inl refl
some-left (ys ∷ cores) (n ∷ next) many there = elim (cases_order n (length ys)) [
  | inl all ↦ elim (some-left cores next (omega arith) (λ id. there (record { core = suc id.core; index = id.index }))) [
    | inl rest ↦ inl (λ i. all i ∷ rest i)
    | inr found ↦ inr (suc found.0, found.1, found.2)
  ]
  | inr apart ↦ elim apart [
    | inl below ↦ inr (0, get_or ys n (Stored 0 0), slice_get-get_or ys n (Stored 0 0) below)
    | inr above ↦ absurd (
        let past = there (record { core = 0; index = length ys }) above in
        let wrong = slice_get_within ys (length ys) past.0 past.1 in
        omega arith)
  ]
]
some-left cores next many there = absurd (omega arith)
