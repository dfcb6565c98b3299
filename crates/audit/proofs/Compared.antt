-- Lists that are compared from the front on.
use Rattle.std.proofs.Common.{ℕ, zero, suc, ◌≡◌, ◌+◌, ◌≢◌, ◌++◌, List, [], ◌∷◌, Option, Some, None, take, drop, length, get_or, ◌<◌, ◌≤◌, refl, sym, ap, ◌∙◌, add-one}
use Rattle.std.specs.Prelude.{is_some, Bool, true, false, if◌then◌else◌, ◌==◌, option_and_then, slice_get}
use Rattle.std.proofs.lemmas.Option.{slice_get-get_or}
use Rattle.line_stamps.specs.Messages.{addr_of}
use Rattle.std.proofs.lemmas.List.{take-append-drop, at_drop_more, at_drop_all}
use Rattle.manager_slice.specs.declared.managed.HistoryEntry.{HistoryEntry}
use Rattle.manager_slice.specs.declared.managed.HistoryEntry.TheVariants.{Evicted, Served}
use Rattle.audit.specs.Lists.{put}
use Rattle.audit.specs.Pairs.{slice_of, DiffersAt, gots, got_at, serveds, served_at}
use Rattle.audit.specs.inner.Fronts.{SameSoFar}
use Rattle.audit.specs.inner.Words.{got_in, served_in, IsNextServed}
use Rattle.line_stamps.specs.declared.message.Message.{Message}
use Rattle.line_stamps.specs.declared.message.Reply.{Reply}
use Rattle.core_unit.specs.declared.entry.CoreEntry.{CoreEntry}
use Rattle.core_unit.specs.declared.entry.CoreEntry.TheVariants.{Performed, Dropped, Gave, Got, Bumped}

pub get_drop : {A : Type 0} (xs : List A) (k : ℕ) → slice_get xs k ≡ slice_get (drop k xs) 0
get_drop [] zero = refl
get_drop [] (suc k) = refl
get_drop (x ∷ xs) zero = refl
get_drop (x ∷ xs) (suc k) = get_drop xs k

pub take_next : {A : Type 0} (xs : List A) (k : ℕ) (y : A) (r : List A) → drop k xs ≡ y ∷ r → take (suc k) xs ≡ take k xs ++ y ∷ []
take_next [] zero y r e = cc
take_next [] (suc k) y r e = cc
take_next (x ∷ xs) zero y r e = let h : x ≡ y = cc in ap (λ z. z ∷ []) h
take_next (x ∷ xs) (suc k) y r e = ap (λ l. x ∷ l) (take_next xs k y r e)

pub drop_next : {A : Type 0} (xs : List A) (k : ℕ) (y : A) (r : List A) → drop k xs ≡ y ∷ r → drop (suc k) xs ≡ r
drop_next [] zero y r e = cc
drop_next [] (suc k) y r e = cc
drop_next (x ∷ xs) zero y r e = cc
drop_next (x ∷ xs) (suc k) y r e = drop_next xs k y r e

pub same_more : {A : Type 0} (xs ys : List A) (k : ℕ) (z : A) (xr yr : List A) → SameSoFar xs ys k (z ∷ xr) (z ∷ yr) → SameSoFar xs ys (k + 1) xr yr
same_more xs ys k z xr yr h = rw add-one (record {
  one = drop_next xs k z xr h.one;
  other = drop_next ys k z yr h.other;
  same = take_next xs k z xr h.one ∙ (ap (λ l. l ++ z ∷ []) h.same ∙ sym (take_next ys k z yr h.other));
})

pub same_differs : {A : Type 0} (xs ys : List A) (k : ℕ) (xr yr : List A) → SameSoFar xs ys k xr yr → slice_get xr 0 ≢ slice_get yr 0 → DiffersAt xs ys k
same_differs xs ys k xr yr h n =
    (h.same, λ e. n (ap (λ l. slice_get l 0) (sym h.one) ∙ (sym (get_drop xs k) ∙ (e ∙ (get_drop ys k ∙ ap (λ l. slice_get l 0) h.other)))))

pub same_whole : {A : Type 0} (xs ys : List A) (k : ℕ) → SameSoFar xs ys k [] [] → xs ≡ ys
same_whole xs ys k h =
    sym (take-append-drop k xs) ∙ (ap (λ l. take k xs ++ l) (h.one ∙ sym h.other) ∙ (ap (λ l. l ++ drop k ys) h.same ∙ take-append-drop k ys))

pub same_as : {A : Type 0} (xs ys : List A) (k : ℕ) (xr yr xt yt : List A) → SameSoFar xs ys k xr yr → xr ≡ xt → yr ≡ yt → SameSoFar xs ys k xt yt
same_as xs ys k xr yr xt yt h a b = record { one = h.one ∙ a; other = h.other ∙ b; same = h.same }

-- the pairs from an entry on
pub gots_at : (n s : ℕ) (T : List CoreEntry) (i : ℕ) (e : CoreEntry) → e ≡ get_or T i e → i < length T → gots n s (drop i T) ≡ put (got_at n s e) (gots n s (drop (i + 1) T))
gots_at n s T i e is lt = at_drop_more (gots n s) T i e lt ∙ ap (λ x. put (got_at n s x) (gots n s (drop (i + 1) T))) (sym is)

pub gots_end : (n s : ℕ) (T : List CoreEntry) (i : ℕ) → length T ≤ i → gots n s (drop i T) ≡ []
gots_end n s T i h = at_drop_all (gots n s) T i h

-- ---- messages with their replies

pub some_of : {A : Type 0} (o : Option A) → is_some o ≡ true → (x : A) × (o ≡ Some x)
some_of None e = absurd cc
some_of (Some x) e = (x, refl)

-- what is picked is what the entry has
pub got_has : (n s : ℕ) (e : CoreEntry) (x : Message × Reply) → got_at n s e ≡ Some x → got_in e ≡ Some x
got_has n s Performed x h = absurd cc
got_has n s (Dropped a) x h = absurd cc
got_has n s (Gave m) x h = absurd cc
got_has n s Bumped x h = absurd cc
got_has n s (Got m r) x h = by_test (slice_of n (addr_of m) == s) h
  where
    by_test : (b : Bool) → (if b then Some (m, r) else None) ≡ Some x → Some (m, r) ≡ Some x
    by_test true k = k
    by_test false k = absurd cc

pub served_has : (c : ℕ) (e : HistoryEntry) (x : Message × Reply) → served_at c e ≡ Some x → served_in e ≡ Some x
served_has c (Evicted a) x h = absurd cc
served_has c (Served d m r) x h = by_test (d == c) h
  where
    by_test : (b : Bool) → (if b then Some (m, r) else None) ≡ Some x → Some (m, r) ≡ Some x
    by_test true k = k
    by_test false k = absurd cc

-- an entry in which core c took a reply of slice s
pub record IsNextGot (n s : ℕ) (T : List CoreEntry) (i : ℕ) (e : CoreEntry) : Type 0 where
  pub pair : Message × Reply
  pub has : got_in e ≡ Some pair
  pub rest : gots n s (drop i T) ≡ pair ∷ gots n s (drop (i + 1) T)

pub next_got : (n s : ℕ) (T : List CoreEntry) (i : ℕ) (e : CoreEntry) → e ≡ get_or T i e → i < length T → is_some (got_at n s e) ≡ true → IsNextGot n s T i e
next_got n s T i e is lt h =
    let x = some_of (got_at n s e) h in
    record { pair = x.0; has = got_has n s e x.0 x.1; rest = gots_at n s T i e is lt ∙ ap (λ o. put o (gots n s (drop (i + 1) T))) x.1 }

pub none_of : {A : Type 0} (o : Option A) → is_some o ≡ false → o ≡ None
none_of None e = refl
none_of (Some x) e = absurd cc

-- the message of core c that is served next stands here
pub served_here : (c : ℕ) (H : List HistoryEntry) (from at : ℕ) (e : HistoryEntry) → e ≡ get_or H at e → at < length H → from ≤ at → serveds c (drop at H) ≡ serveds c (drop from H)
    → is_some (served_at c e) ≡ true → IsNextServed c H from at
served_here c H from at e is lt le same h =
    let x = some_of (served_at c e) h in record {
      least = le;
      within = lt;
      entry = e;
      stands = slice_get-get_or H at e lt ∙ ap (λ y. Some y) (sym is);
      pair = x.0;
      has = served_has c e x.0 x.1;
      rest = sym same ∙ (at_drop_more (serveds c) H at e lt ∙ (ap (λ y. put (served_at c y) (serveds c (drop (at + 1) H))) (sym is)
          ∙ ap (λ o. put o (serveds c (drop (at + 1) H))) x.1));
    }

-- the pair of a place differs
module _ (n s c : ℕ) (T : List CoreEntry) (H : List HistoryEntry) (i place seen : ℕ) (entry : CoreEntry)
    (far : SameSoFar (serveds c H) (gots n s T) place (serveds c (drop seen H)) (gots n s (drop i T))) where
  pub none_served : IsNextGot n s T i entry → serveds c (drop seen H) ≡ [] → DiffersAt (serveds c H) (gots n s T) place
  none_served g none = same_differs _ _ _ _ _ (same_as _ _ _ _ _ _ _ far none g.rest) (λ e. absurd cc)

  pub another_served : (g : IsNextGot n s T i entry) (at : ℕ) → IsNextServed c H seen at
      → option_and_then served_in (slice_get H at) ≢ got_in entry → DiffersAt (serveds c H) (gots n s T) place
  another_served g at h other =
      let here : option_and_then served_in (slice_get H at) ≡ Some h.pair = ap (option_and_then served_in) h.stands ∙ h.has in
      same_differs _ _ _ _ _ (same_as _ _ _ _ _ _ _ far h.rest g.rest) (λ e. other (here ∙ (e ∙ sym g.has)))

  pub same_served : (g : IsNextGot n s T i entry) (at : ℕ) → IsNextServed c H seen at
      → option_and_then served_in (slice_get H at) ≡ got_in entry
      → SameSoFar (serveds c H) (gots n s T) (place + 1) (serveds c (drop (at + 1) H)) (gots n s (drop (i + 1) T))
  same_served g at h same =
      let here : option_and_then served_in (slice_get H at) ≡ Some h.pair = ap (option_and_then served_in) h.stands ∙ h.has in
      let pair : h.pair ≡ g.pair = let both : Some h.pair ≡ Some g.pair = sym here ∙ (same ∙ g.has) in cc in
      same_more _ _ _ _ _ _ (same_as _ _ _ _ _ _ _ far (h.rest ∙ ap (λ x. x ∷ serveds c (drop (at + 1) H)) pair) g.rest)

  pub served_left : gots n s (drop i T) ≡ [] → (at : ℕ) → IsNextServed c H seen at → DiffersAt (serveds c H) (gots n s T) place
  served_left none at h = same_differs _ _ _ _ _ (same_as _ _ _ _ _ _ _ far h.rest none) (λ e. absurd cc)

  pub all_served : gots n s (drop i T) ≡ [] → serveds c (drop seen H) ≡ [] → serveds c H ≡ gots n s T
  all_served none last = same_whole _ _ _ (same_as _ _ _ _ _ _ _ far last none)
