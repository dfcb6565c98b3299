-- Answers to bytes that were fed in pieces.
use Rattle.std.proofs.Common.{◌≡◌, ◌≢◌, ℕ, ◌+◌, ◌<◌, List, ◌∷◌, ◌++◌, length, get_or, take, drop, Option, Result, Ok, Err, IsErrAnd, sym, ap, subst, ◌∙◌, append_assoc}
use Rattle.std.specs.Global.{Vec}
use Rattle.std.specs.List.{flat_map}
use Rattle.std.specs.Io.KnownBytes.{Consumes, IsAtEnd}
use Rattle.std.proofs.lemmas.List.{take-append-drop, drop_more}
use Rattle.std.proofs.lemmas.Grind.{flat_map-append}
use Rattle.std.proofs.lemmas.Result.{err_from_is_err_and}
use Rattle.log_record.specs.declared.record.Record.{Record}
use Rattle.log_file.specs.declared.fault.LogFault.{LogFault}
use Rattle.log_file.specs.declared.fault.LogFault.TheVariants.{At, OutOfMemory, Read}
use Rattle.log_file.specs.Answers.{IsAnswer, IsFaultOf, IsFaultOrMemory, IsFaultOrDevice, IsListAnswer}
use Rattle.log_file.specs.Devices.{Tells}
use Rattle.log_file.specs.Feeding.{Feeds, IsSettled}
use Rattle.log_file.proofs.Devices.{told, tells_told, consumes_told, consumes_end}

-- the answer of a reader that was fed `front` without a fault and then refused a piece
refused_as : (core cores old_core old_cores : ℕ) (front piece : List ℕ) (f : LogFault)
    (old new : Result (List ℕ) LogFault) → old_core ≡ core → old_cores ≡ cores → old ≡ Ok front
    → Feeds old_core old_cores old piece (Err f) new
    → IsSettled core cores (front ++ piece) f
refused_as core cores old_core old_cores front piece f old new core-is cores-is fed h =
    let h' : Feeds old_core old_cores (Ok front) piece (Err f) new = subst
    (λ (o : Result (List ℕ) LogFault). Feeds old_core old_cores o piece (Err f) new) fed h in
    subst (λ (k : ℕ). IsSettled core k (front ++ piece) f) cores-is
    (subst (λ (k : ℕ). IsSettled k old_cores (front ++ piece) f) core-is h'.1)

-- a fault that is settled is that of the whole
settled_fault : (core cores : ℕ) (front rest : List ℕ) (f : LogFault) → IsSettled core cores front f
    → IsFaultOrMemory core cores (front ++ rest) f
settled_fault core cores front rest (At k f) h = h rest
settled_fault core cores front rest OutOfMemory h = tt
settled_fault core cores front rest Read h = h

read_fault : (core cores : ℕ) (bytes : List ℕ) (f : LogFault) → IsFaultOrMemory core cores bytes f
    → IsFaultOrDevice core cores bytes f
read_fault core cores bytes (At k f) h = h
read_fault core cores bytes OutOfMemory h = tt
read_fault core cores bytes Read h = absurd h

-- the fault of a whole text isn't one of a device
pub text_fault : (core cores : ℕ) (bytes : List ℕ) (f : LogFault) → IsFaultOf core cores bytes f → IsFaultOrDevice core cores bytes f × (f ≢ Read)
text_fault core cores bytes (At k f) h = (h, λ e. cc)
text_fault core cores bytes OutOfMemory h = absurd h
text_fault core cores bytes Read h = absurd h

-- what holds of a log holds of the same one
pub same_log : (F : ℕ → ℕ → Type 0) {a b m n : ℕ} → a ≡ b → m ≡ n → F a m → F b n
same_log F {a} {b} {m} {n} e d h = subst (λ (k : ℕ). F b k) d (subst (λ (k : ℕ). F k m) e h)

-- an answer to all that a source tells
abbrev pub AnswersSource : {L : Type 0} → (L → List Record) → ℕ → ℕ → Option (List ℕ) → Result L LogFault → Type 0
AnswersSource records core cores before r = (bytes : List ℕ) × Tells before bytes × IsListAnswer records core cores bytes r

answered : {L : Type 0} (records : L → List Record) (core cores : ℕ) (before : Option (List ℕ)) (r : Result L LogFault) (f : LogFault) → IsErrAnd r (λ x. x ≡ f)
    → (bytes : List ℕ) → Tells before bytes → IsFaultOrDevice core cores bytes f → AnswersSource records core cores before r
answered records core cores before r f is bytes tells fault = let p = err_from_is_err_and r is in rw (p.1, p.2) (bytes, tells, fault)

-- lack of memory or a failed read, which may come whatever the source tells
pub source_unread : {L : Type 0} (records : L → List Record) (core cores : ℕ) (before : Option (List ℕ)) (r : Result L LogFault) (f : LogFault) → IsErrAnd r (λ x. x ≡ f)
    → IsFaultOrDevice core cores (told before) f → AnswersSource records core cores before r
source_unread records core cores before r f is fault = answered records core cores before r f is (told before) (tells_told before) fault

-- the bytes so far settle the fault
pub source_refused : {L : Type 0} (records : L → List Record) (core cores : ℕ) (before after : Option (List ℕ)) (r : Result L LogFault) (f : LogFault) → IsErrAnd r (λ x. x ≡ f)
    → (bytes : List ℕ) → Consumes before after bytes → IsSettled core cores bytes f → AnswersSource records core cores before r
source_refused records core cores before after r f is bytes read settled =
    answered records core cores before r f is (bytes ++ told after) (consumes_told before after bytes read)
    (read_fault core cores (bytes ++ told after) f (settled_fault core cores bytes (told after) f settled))

-- the fault is that of all bytes
pub source_ended : {L : Type 0} (records : L → List Record) (core cores : ℕ) (before after : Option (List ℕ)) (r : Result L LogFault) (f : LogFault) → IsErrAnd r (λ x. x ≡ f)
    → (bytes : List ℕ) → Consumes before after bytes → IsAtEnd after → IsFaultOf core cores bytes f → AnswersSource records core cores before r
source_ended records core cores before after r f is bytes read end fault =
    answered records core cores before r f is bytes (consumes_end before after bytes read end) (text_fault core cores bytes f fault).0

-- pieces, cut at one of them
pieces_at : (vs : List (Vec ℕ)) (i : ℕ) (d : Vec ℕ) → i < length vs
    → flat_map (λ (v : Vec ℕ). v.items) vs ≡
    (flat_map (λ (v : Vec ℕ). v.items) (take i vs) ++ (get_or vs i d).items) ++ flat_map (λ (v : Vec ℕ). v.items)
    (drop (i + 1) vs)
pieces_at vs i d lt =
    let f = λ (v : Vec ℕ). v.items in
    ap (flat_map f) (sym (take-append-drop i vs) ∙ ap (λ (ws : List (Vec ℕ)). take i vs ++ ws) (drop_more vs i d lt))
    ∙ flat_map-append f (take i vs) (get_or vs i d ∷ drop (i + 1) vs)
    ∙ sym (append_assoc (flat_map f (take i vs)) (get_or vs i d).items (flat_map f (drop (i + 1) vs)))

-- the answer to pieces where one is refused
pub piece_refused : (core cores old_core old_cores : ℕ) (vs : List (Vec ℕ)) (i : ℕ) (d : Vec ℕ) (piece : List ℕ)
    (f : LogFault) (old new : Result (List ℕ) LogFault) (r : Result (Vec Record) LogFault)
    → r ≡ Err f → i < length vs → piece ≡ (get_or vs i d).items → old_core ≡ core → old_cores ≡ cores
    → old ≡ Ok (flat_map (λ (v : Vec ℕ). v.items) (take i vs)) → Feeds old_core old_cores old piece (Err f) new
    → IsAnswer core cores (flat_map (λ (v : Vec ℕ). v.items) vs) r
piece_refused core cores old_core old_cores vs i d piece f old new r is lt piece-is core-is cores-is fed h =
    let items = λ (v : Vec ℕ). v.items in
    let front = flat_map items (take i vs) in
    let rest = flat_map items (drop (i + 1) vs) in
    let settled = refused_as core cores old_core old_cores front piece f old new core-is cores-is fed h in
    let whole : (front ++ piece) ++ rest ≡ flat_map items vs = ap (λ (x : List ℕ). (front ++ x) ++ rest) piece-is
    ∙ sym (pieces_at vs i d lt) in
    subst (λ (x : Result (Vec Record) LogFault). IsAnswer core cores (flat_map items vs) x) (sym is)
    (subst (λ (bytes : List ℕ). IsFaultOrMemory core cores bytes f) whole
    (settled_fault core cores (front ++ piece) rest f settled))
