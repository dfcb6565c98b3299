-- The memory after steps, as a map of last stores.
use Rattle.std.specs.Prelude.{◌≡◌, ℕ, Bool, true, false, cond, List, [], ◌∷◌, ◌++◌, refl, Some, find, reverse}
use Rattle.std.specs.Option.{option_map}
use Rattle.std.proofs.Common.{sym, ◌∙◌, ap}
use Rattle.std.proofs.lemmas.List.{map-append, reverse-append}
use Rattle.mem_op.specs.Consistency.{Operation, is_store_to, value_or_zero, last_value}
use Rattle.flat_replay.specs.Memory.{word_after}
use Rattle.trace_replay.specs.States.{last_store, stored_by}
use Rattle.trace_replay.specs.Steps.{Step, operations}

-- one step more
pub last_store-push : (addr : ℕ) (steps : List Step) (step : Step)
    → last_store addr (steps ++ step ∷ []) ≡ cond (is_store_to addr step.operation) (Some (stored_by step)) (last_store addr steps)
last_store-push addr steps step =
    ap (λ (ss : List Step). option_map stored_by (find (λ (s : Step). is_store_to addr s.operation) ss)) (reverse-append steps (step ∷ []))
    ∙ go (is_store_to addr step.operation)
  where
    go : (b : Bool) → option_map stored_by (cond b (Some step) (find (λ (s : Step). is_store_to addr s.operation) (reverse steps)))
        ≡ cond b (Some (stored_by step)) (last_store addr steps)
    go true = refl
    go false = refl

reverse_map : (steps : List Step) → reverse (operations steps) ≡ operations (reverse steps)
reverse_map [] = refl
reverse_map (step ∷ steps) =
    reverse-append (step.operation ∷ []) (operations steps)
    ∙ ap (λ (ops : List Operation). ops ++ step.operation ∷ []) (reverse_map steps)
    ∙ sym (ap operations (reverse-append (step ∷ []) steps) ∙ map-append (λ (s : Step). s.operation) (reverse steps) (step ∷ []))

-- the word of the last store is the flat answer
pub last_word : (addr : ℕ) (steps : List Step) → word_after (last_store addr steps) ≡ last_value addr (operations steps)
last_word addr steps = found (reverse steps) ∙ sym (ap (λ (ops : List Operation). value_or_zero (find (is_store_to addr) ops)) (reverse_map steps))
  where
    found : (ss : List Step) → word_after (option_map stored_by (find (λ (s : Step). is_store_to addr s.operation) ss)) ≡ value_or_zero (find (is_store_to addr) (operations ss))
    found [] = refl
    found (s ∷ ss) = go (is_store_to addr s.operation) (found ss)
      where
        go : (b : Bool) → word_after (option_map stored_by (find (λ (s : Step). is_store_to addr s.operation) ss)) ≡ value_or_zero (find (is_store_to addr) (operations ss))
            → word_after (option_map stored_by (cond b (Some s) (find (λ (s : Step). is_store_to addr s.operation) ss)))
            ≡ value_or_zero (cond b (Some s.operation) (find (is_store_to addr) (operations ss)))
        go true rest = refl
        go false rest = rest
