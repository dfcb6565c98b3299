-- Entries that lead on.
use Rattle.std.proofs.Common.{◌≡◌, List, [], ◌∷◌, ◌++◌, refl, subst}
use Rattle.manager_slice.specs.Leads.{Leads}

module _ {S E : Type 0} (step : S → E → S → Type 0) where
  -- entries after entries
  pub Leads-append : (s : S) (es fs : List E) (m t : S) → Leads step s es m → Leads step m fs t → Leads step s (es ++ fs) t
  Leads-append s [] fs m t h k = subst (λ x. Leads step x fs t) h k
  Leads-append s (e ∷ es) fs m t h k = (h.0, h.1, Leads-append h.0 es fs m t h.2 k)

  -- one more entry
  pub Leads-push : (s : S) (es : List E) (m : S) (e : E) (t : S) → Leads step s es m → step m e t → Leads step s (es ++ e ∷ []) t
  Leads-push s es m e t h k = Leads-append s es (e ∷ []) m t h (t, k, refl)
