-- One sight more: what it adds to the counts.
use Rattle.std.proofs.Common.{◌≡◌, ℕ, ◌+◌, ◌<◌, cond, List, [], ◌∷◌, ◌++◌, count_by, get_or, length, take, refl, sym, ap, ◌∙◌, arith}
use Rattle.std.specs.Prelude.{if◌then◌else◌}
use Rattle.std.specs.List.{fold}
use Rattle.std.proofs.lemmas.List.{take_more}
use Rattle.std.proofs.lemmas.List.FromFn.{fill_by_all, get_or-map-range_with_len}
use Rattle.std.proofs.lemmas.List.Sums.{sum_by_push}
use Rattle.log_record.specs.declared.record.Record.{Record}
use Rattle.core_unit.specs.declared.entry.CoreEntry.{CoreEntry}
use Rattle.statistics.specs.Columns.{column_at, column_count, counts}
use Rattle.statistics.specs.Numbers.{by_place, counted}
use Rattle.statistics.specs.Sights.{past_after, sight_of, sights_after}
use Rattle.statistics.specs.declared.sight.Past.{Past}
use Rattle.statistics.specs.declared.sight.Sight.{Sight}

count_at : (sights : List Sight) (k : ℕ) → k < column_count → get_or (counted sights) k 0 ≡ count_by (counts (column_at k)) sights
unfolding by_place
count_at sights k lt = get_or-map-range_with_len (λ place. count_by (counts (column_at place)) sights) 0 column_count k k 0 lt (omega arith)

pub one_more : (seen : List Sight) (s : Sight) (old new : List ℕ) → length new ≡ column_count
    → ((k : ℕ) → k < column_count → get_or new k 0 ≡ get_or old k 0 + (if counts (column_at k) s then 1 else 0)) → old ≡ counted seen → new ≡ counted (seen ++ s ∷ [])
unfolding by_place
one_more seen s old new long each was =
    fill_by_all (λ place. count_by (counts (column_at place)) (seen ++ s ∷ [])) new column_count 0 long
    (λ k lt. omega (arith, each k lt, ap (λ (o : List ℕ). get_or o k 0) was, count_at seen k lt, sum_by_push (λ x. cond (counts (column_at k) x) 1 0) seen s))

-- ---- of an entry

sights_push : (period : ℕ) (log : List Record) (past : Past) (es : List CoreEntry) (e : CoreEntry)
    → sights_after period log past (es ++ e ∷ []) ≡ sights_after period log past es ++ sight_of period log (fold past_after past es) e ∷ []
sights_push period log past [] e = refl
sights_push period log past (x ∷ es) e = ap (λ t. sight_of period log past x ∷ t) (sights_push period log (past_after past x) es e)

pub sights_more : (period : ℕ) (log : List Record) (past now : Past) (es : List CoreEntry) (i : ℕ) (e : CoreEntry)
    → i < length es → get_or es i e ≡ e → now ≡ fold past_after past (take i es)
    → sights_after period log past (take (i + 1) es) ≡ sights_after period log past (take i es) ++ sight_of period log now e ∷ []
sights_more period log past now es i e lt at is =
    ap (sights_after period log past) (take_more es i e lt ∙ ap (λ (x : CoreEntry). take i es ++ x ∷ []) at)
    ∙ sights_push period log past (take i es) e ∙ ap (λ (p : Past). sights_after period log past (take i es) ++ sight_of period log p e ∷ []) (sym is)
