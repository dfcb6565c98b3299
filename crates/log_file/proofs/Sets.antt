-- Readers one after another.
use Rattle.std.proofs.Common.{◌≡◌, ℕ, zero, suc, ◌+◌, ◌<◌, ◌≤◌, List, [], ◌∷◌, ◌++◌, length, get_or, take, drop, set, map, Option, Some, refl, sym, ap, subst, ◌∙◌, arith}
use Rattle.std.specs.List.{All}
use Rattle.std.proofs.lemmas.List.Elements.{All-nil, All-cons}
use Rattle.std.proofs.lemmas.List.{take-append-drop, drop_more, get_or-drop, drop-drop, length-take, drop-set-lt, take_all, take_more}
use Rattle.std.proofs.lemmas.List.{get_or_append_left, get_or-append-add, get_or-set_same, length-set}
use Rattle.std.proofs.lemmas.Option.{slice_get-get_or}
use Rattle.mem_op.specs.Limits.{operation_limit}
use Rattle.log_record.specs.declared.record.Record.{Record}
use Rattle.log_file.specs.declared.fault.LogFault.{LogFault}
use Rattle.log_file.specs.declared.fault.LogFault.TheVariants.{At, OutOfMemory, Read}
use Rattle.log_file.specs.Log.{Spells}
use Rattle.log_file.specs.Devices.{Tells, Failed}
use Rattle.log_file.specs.Answers.{IsFaultOrDevice}
use Rattle.log_file.specs.Sets.{SpellFrom, SpellSet, SpellBefore, IsSetFault, ReaderFailed, TellEach, text_at}
use Rattle.log_file.proofs.Devices.{told, tells_told}

-- each reader tells what is left of it, if anything
pub each_tells : {A : Type 0} (rem : A → Option (List ℕ)) (xs : List A) → TellEach rem xs (map (λ s. told (rem s)) xs)
each_tells rem [] = tt
each_tells rem (x ∷ xs) = (tells_told (rem x), each_tells rem xs)

tell_append : {A : Type 0} (rem : A → Option (List ℕ)) (xs ys : List A) (ts us : List (List ℕ)) → TellEach rem xs ts
    → TellEach rem ys us → TellEach rem (xs ++ ys) (ts ++ us)
tell_append rem [] ys [] us p q = q
tell_append rem [] ys (t ∷ ts) us p q = absurd p
tell_append rem (x ∷ xs) ys [] us p q = absurd p
tell_append rem (x ∷ xs) ys (t ∷ ts) us p q = (p.0, tell_append rem xs ys ts us p.1 q)

tell_length : {A : Type 0} (rem : A → Option (List ℕ)) (xs : List A) (ts : List (List ℕ)) → TellEach rem xs ts
    → length xs ≡ length ts
tell_length rem [] [] p = refl
tell_length rem [] (t ∷ ts) p = absurd p
tell_length rem (x ∷ xs) [] p = absurd p
tell_length rem (x ∷ xs) (t ∷ ts) p = ap suc (tell_length rem xs ts p.1)

split_at : {A : Type 0} (xs : List A) (i : ℕ) (d : A) → i < length xs
    → take i xs ++ (get_or xs i d ∷ drop (i + 1) xs) ≡ xs
split_at xs i d lt = ap (λ rest. take i xs ++ rest) (sym (drop_more xs i d lt)) ∙ take-append-drop i xs

pub tell_one : {A : Type 0} (rem : A → Option (List ℕ)) (xs : List A) (i : ℕ) (d : A) (ts : List (List ℕ))
    (t : List ℕ) → i < length xs → TellEach rem (take i xs) ts → Tells (rem (get_or xs i d)) t
    → TellEach rem (take (i + 1) xs) (ts ++ t ∷ [])
tell_one rem xs i d ts t lt p q =
    subst (λ ys. TellEach rem ys (ts ++ t ∷ [])) (sym (take_more xs i d lt))
    (tell_append rem (take i xs) (get_or xs i d ∷ []) ts (t ∷ []) p (q, tt))

tell_whole : {A : Type 0} (rem : A → Option (List ℕ)) (xs : List A) (i : ℕ) (d : A) (ts : List (List ℕ)) (t : List ℕ)
    → i < length xs → TellEach rem (take i xs) ts → Tells (rem (get_or xs i d)) t
    → TellEach rem xs (ts ++ (t ∷ map (λ s. told (rem s)) (drop (i + 1) xs)))
tell_whole rem xs i d ts t lt p q =
    subst (λ ys. TellEach rem ys (ts ++ (t ∷ map (λ s. told (rem s)) (drop (i + 1) xs)))) (split_at xs i d lt)
    (tell_append rem (take i xs) (get_or xs i d ∷ drop (i + 1) xs) ts
    (t ∷ map (λ s. told (rem s)) (drop (i + 1) xs)) p (q, each_tells rem (drop (i + 1) xs)))

-- the reader at i is still as it was
pub same_reader : {A : Type 0} (xs ys : List A) (i : ℕ) (d : A) → drop i xs ≡ drop i ys
    → get_or xs i d ≡ get_or ys i d
same_reader xs ys i d e =
    let at : i + 0 ≡ i = omega arith in
    sym (ap (λ (k : ℕ). get_or xs k d) at) ∙ sym (get_or-drop i xs 0 d) ∙ ap (λ zs. get_or zs 0 d) e
    ∙ get_or-drop i ys 0 d ∙ ap (λ (k : ℕ). get_or ys k d) at

-- the readers after i stay as they are
pub same_behind : {A : Type 0} (xs ys : List A) (i : ℕ) (x : A) → drop i xs ≡ drop i ys
    → drop (i + 1) (set xs i x) ≡ drop (i + 1) ys
same_behind xs ys i x e =
    drop-set-lt (i + 1) xs i x (omega arith) ∙ sym (drop-drop 1 i xs) ∙ ap (drop 1) e ∙ drop-drop 1 i ys

pub spelled_at : (k n : ℕ) (ts : List (List ℕ)) (logs : List (List Record)) (j : ℕ) → SpellFrom k n ts logs
    → j < length ts → (log : List Record) × Spells (k + j) n (get_or ts j []) log
spelled_at k n [] logs j p lt = absurd (omega arith)
spelled_at k n (t ∷ ts) [] j p lt = absurd p
spelled_at k n (t ∷ ts) (l ∷ logs) zero p lt =
    (l, subst (λ (c : ℕ). Spells c n t l) (let e : k ≡ k + 0 = omega arith in e) p.0)
spelled_at k n (t ∷ ts) (l ∷ logs) (suc j) p lt =
    let q = spelled_at (k + 1) n ts logs j p.1 (omega arith) in
    (q.0, subst (λ (c : ℕ). Spells c n (get_or ts j []) q.0) (let e : k + 1 + j ≡ k + suc j = omega arith in e) q.1)

spell_push : (k n : ℕ) (ts : List (List ℕ)) (logs : List (List Record)) (t : List ℕ) (l : List Record)
    → SpellFrom k n ts logs → Spells (k + length ts) n t l → SpellFrom k n (ts ++ t ∷ []) (logs ++ l ∷ [])
spell_push k n [] [] t l p q = (subst (λ (c : ℕ). Spells c n t l) (let e : k + 0 ≡ k = omega arith in e) q, tt)
spell_push k n [] (m ∷ logs) t l p q = absurd p
spell_push k n (u ∷ ts) [] t l p q = absurd p
spell_push k n (u ∷ ts) (m ∷ logs) t l p q = (
  p.0,
  spell_push (k + 1) n ts logs t l p.1
      (subst (λ (c : ℕ). Spells c n t l) (let e : k + suc (length ts) ≡ k + 1 + length ts = omega arith in e) q),
)

-- the texts so far, and their logs
abbrev pub LogsSoFar : {A : Type 0} → (A → Option (List ℕ)) → List A → ℕ → ℕ → List (List Record) → Type 0
LogsSoFar rem xs i n logs = (texts : List (List ℕ)) × TellEach rem (take i xs) texts × SpellFrom 0 n texts logs

pub set_more : {A : Type 0} (rem : A → Option (List ℕ)) (xs : List A) (i n : ℕ) (d : A) (logs : List (List Record))
    (log : List Record) (t : List ℕ) → i < length xs → LogsSoFar rem xs i n logs → Tells (rem (get_or xs i d)) t
    → Spells i n t log → LogsSoFar rem xs (i + 1) n (logs ++ log ∷ [])
set_more {A} rem xs i n d logs log t lt far tells spells =
    let len : length far.0 ≡ i = sym (tell_length rem (take i xs) far.0 far.1) ∙ omega (arith, length-take i xs) in
    let at : i ≡ 0 + length far.0 = omega arith in (
      far.0 ++ t ∷ [],
      tell_one rem xs i d far.0 t lt far.1 tells,
      spell_push 0 n far.0 logs t log far.2 (subst (λ (c : ℕ). Spells c n t log) at spells),
    )

pub set_refused : {A : Type 0} (rem : A → Option (List ℕ)) (xs : List A) (i n : ℕ) (d : A) (logs : List (List Record))
    (t : List ℕ) (f : LogFault) → i < length xs → n ≡ length xs → LogsSoFar rem xs i n logs
    → Tells (rem (get_or xs i d)) t → IsFaultOrDevice i n t f
    → (texts : List (List ℕ)) × TellEach rem xs texts × IsSetFault texts i f
set_refused {A} rem xs i n d logs t f lt n-is far tells holds = (whole, all, fault f holds)
  where
    whole : List (List ℕ)
    whole = far.0 ++ (t ∷ map (λ (s : A). told (rem s)) (drop (i + 1) xs))

    all : TellEach rem xs (far.0 ++ (t ∷ map (λ (s : A). told (rem s)) (drop (i + 1) xs)))
    all = tell_whole rem xs i d far.0 t lt far.1 tells

    len : length far.0 ≡ i
    len = sym (tell_length rem (take i xs) far.0 far.1) ∙ omega (arith, length-take i xs)

    count : length whole ≡ length xs
    count = sym (tell_length rem xs whole all)

    before : SpellBefore whole i
    before k lt' =
        let q = spelled_at 0 n far.0 logs k far.2 (omega (arith, len)) in
        let zero-add : 0 + k ≡ k = omega arith in
        let n-whole : n ≡ length whole = n-is ∙ sym count in
        let text-is : get_or far.0 k [] ≡ text_at whole k = sym
        (get_or_append_left far.0 (t ∷ map (λ (s : A). told (rem s)) (drop (i + 1) xs)) [] k
        (omega (arith, len))) in (
          q.0,
          subst (λ (m : ℕ). Spells k m (text_at whole k) q.0) n-whole
              (subst (λ (x : List ℕ). Spells k n x q.0) text-is
              (subst (λ (c : ℕ). Spells c n (get_or far.0 k []) q.0) zero-add q.1)),
        )

    there : (g : LogFault) → IsFaultOrDevice i n t g → IsFaultOrDevice i (length whole) (text_at whole i) g
    there g h =
        let n-whole : n ≡ length whole = n-is ∙ sym count in
        let at : length far.0 + 0 ≡ i = omega (arith, len) in
        let text-is : t ≡ text_at whole i = sym
        (get_or-append-add far.0 (t ∷ map (λ (s : A). told (rem s)) (drop (i + 1) xs)) 0 [])
        ∙ ap (λ (k : ℕ). get_or whole k []) at in
        subst (λ (m : ℕ). IsFaultOrDevice i m (text_at whole i) g) n-whole
        (subst (λ (x : List ℕ). IsFaultOrDevice i n x g) text-is h)

    fault : (g : LogFault) → IsFaultOrDevice i n t g → IsSetFault whole i g
    fault (At k g) h = record { there = omega (arith, count); before = before; first = there (At k g) h }
    fault OutOfMemory h = (omega (arith, count), before)
    fault Read h = (omega (arith, count), before)

pub set_done : {A : Type 0} (rem : A → Option (List ℕ)) (xs : List A) (i n : ℕ) (logs : List (List Record))
    → length xs ≤ i → n ≡ length xs → LogsSoFar rem xs i n logs → (texts : List (List ℕ))
    × TellEach rem xs texts × SpellSet texts logs
set_done {A} rem xs i n logs le n-is far =
    let all : TellEach rem xs far.0 = subst (λ ys. TellEach rem ys far.0) (take_all i xs le) far.1 in
    let count : n ≡ length far.0 = n-is ∙ tell_length rem xs far.0 all in
    (far.0, all, subst (λ (m : ℕ). SpellFrom 0 m far.0 logs) count far.2)

-- there are as many logs as texts
pub spelled_count : (k n : ℕ) (ts : List (List ℕ)) (logs : List (List Record)) → SpellFrom k n ts logs → length logs ≡ length ts
spelled_count k n [] [] p = refl
spelled_count k n [] (log ∷ logs) p = absurd p
spelled_count k n (t ∷ ts) [] p = absurd p
spelled_count k n (t ∷ ts) (log ∷ logs) p = ap suc (spelled_count (k + 1) n ts logs p.1)

-- there are as many logs as readers so far
pub count_so_far : {A : Type 0} (rem : A → Option (List ℕ)) (xs : List A) (i n : ℕ) (logs : List (List Record))
    → i ≤ length xs → LogsSoFar rem xs i n logs → length logs ≡ i
count_so_far rem xs i n logs le far =
    spelled_count 0 n far.0 logs far.2 ∙ sym (tell_length rem (take i xs) far.0 far.1) ∙ omega (arith, le, length-take i xs)

pub set_count : {A : Type 0} (rem : A → Option (List ℕ)) (xs : List A) (i n : ℕ) (logs : List (List Record))
    → length xs ≤ i → LogsSoFar rem xs i n logs → length logs ≡ length xs
set_count {A} rem xs i n logs le far =
    spelled_count 0 n far.0 logs far.2 ∙ sym (tell_length rem (take i xs) far.0 far.1) ∙ ap length (take_all i xs le)

pub spelled_short : (k n : ℕ) (ts : List (List ℕ)) (logs : List (List Record)) → SpellFrom k n ts logs
    → All (λ (log : List Record). length log ≤ operation_limit) logs
spelled_short k n [] [] p = All-nil (λ (log : List Record). length log ≤ operation_limit)
spelled_short k n [] (log ∷ logs) p = absurd p
spelled_short k n (t ∷ ts) [] p = absurd p
spelled_short k n (t ∷ ts) (log ∷ logs) p =
    All-cons (λ (l : List Record). length l ≤ operation_limit) log logs p.0.1.0.few (spelled_short (k + 1) n ts logs p.1)

-- the reader at i failed
pub set_failed : {A : Type 0} (count : A → ℕ) (old new : List A) (i : ℕ) (x y : A) → i < length old
    → length new ≡ length old → drop i new ≡ drop i old → x ≡ get_or new i x
    → Failed (count (get_or new i x)) (count y)
    → ReaderFailed count old (set new i y) i
set_failed count old new i x y lt len same read failed =
    let x-is : get_or old i x ≡ get_or new i x = sym (same_reader new old i x same) in (
      get_or new i x,
      (
        y,
        slice_get-get_or old i x lt
            ∙ ap (λ z. Some z) x-is,
        slice_get-get_or (set new i y) i y (omega (arith, length-set new i y))
            ∙ ap (λ z. Some z) (get_or-set_same new i y y (omega arith)),
        failed,
      ),
    )
