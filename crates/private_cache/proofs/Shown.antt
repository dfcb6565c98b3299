-- What a cache shows of its entries, as they are and after each change of them.
use Rattle.std.proofs.Common.{◌≡◌, ℕ, ◌-◌, ◌≤◌, ◌||◌, nat_eq, nat_lt, List, ◌∷◌, length, Some, None, is_some, IsSome, IsTrue, refl, sym, ap, ◌∙◌, inl, inr, arith}
use Rattle.std.specs.List.{IsDistinct}
use Rattle.std.specs.Map.{keys_of, lookup, remove_entry, set_value}
use Rattle.std.specs.Option.{option_map}
use Rattle.std.specs.FinMap as map
use Rattle.std.proofs.lemmas.Cmp.{nat_eq_equiv}
use Rattle.std.proofs.lemmas.List.{length-map}
use Rattle.std.proofs.lemmas.Map.{keys-set_value}
use Rattle.std.proofs.lemmas.Map.Entries.{lookup_from_place}
use Rattle.std.proofs.lemmas.Option.{slice_get-map, slice_get_cases}
use Rattle.lru.specs.LruCache.{LruCache, lru_cache, promoted, put_entries, last_entry}
use Rattle.private_cache.specs.declared.held.Held.{Held}
use Rattle.private_cache.specs.CacheParts.{Lines, CacheParts}
use Rattle.private_cache.specs.Steps.{line_at, used, kept, without, has_room, least_recently_used}
use Rattle.private_cache.proofs.Entries.{promoted-value, put-front, keys-remove_entry, distinct-remove_key, distinct-front}
use Rattle.private_cache.proofs.Lines.{lines, get-lines, lines-front, lines-set_value, lines-remove_entry, len-lines}

abbrev pub shown : LruCache ℕ Held → CacheParts
shown c = record { lines = lines c.entries; order = keys_of c.entries; capacity = c.cap }

-- no address is there twice
abbrev pub IsApart : LruCache ℕ Held → Type 0
IsApart c = IsDistinct nat_eq (keys_of c.entries)

-- the cache with an entry put before the others, with another line where an entry stands, without an entry
abbrev pub with_front : LruCache ℕ Held → ℕ → Held → LruCache ℕ Held
with_front c a held = lru_cache ((a, held) ∷ remove_entry (nat_eq a) c.entries) c.cap

abbrev pub with_value : LruCache ℕ Held → ℕ → Held → LruCache ℕ Held
with_value c a held = lru_cache (set_value (nat_eq a) c.entries held) c.cap

abbrev pub with_none : LruCache ℕ Held → ℕ → LruCache ℕ Held
with_none c a = lru_cache (remove_entry (nat_eq a) c.entries) c.cap

parts : (m m' : Lines) (ks ks' : List ℕ) (n : ℕ) → m ≡ m' → ks ≡ ks' →
    ◌≡◌ {A = CacheParts} (record { lines = m; order = ks; capacity = n }) (record { lines = m'; order = ks'; capacity = n })
parts m m' ks ks' n e f = rw (e, f) refl

module _ (c : LruCache ℕ Held) (a : ℕ) where
  pub line_at-shown : line_at (shown c) a ≡ lookup (nat_eq a) c.entries
  line_at-shown = get-lines c.entries a

  pub shown-front : (held : Held) → shown (with_front c a held) ≡ used (shown c) a held
  shown-front held = parts _ _ _ _ c.cap (lines-front c.entries a held) (ap (λ ks. a ∷ ks) (keys-remove_entry a c.entries))

  -- the entry that stands there comes to the front, and then gets this line
  pub front_from_promoted : (held : Held) → IsSome (line_at (shown c) a) →
      set_value (nat_eq a) (promoted (nat_eq a) c.entries) held ≡ (with_front c a held).entries
  front_from_promoted held there = promoted-value a c.entries held (rw line_at-shown at there)

  pub shown-value : (held : Held) → IsSome (line_at (shown c) a) → shown (with_value c a held) ≡ kept (shown c) a held
  shown-value held there =
      parts _ _ _ _ c.cap (lines-set_value c.entries a held (rw line_at-shown at there)) (keys-set_value (nat_eq a) c.entries held)

  pub shown-none : IsApart c → shown (with_none c a) ≡ without (shown c) a
  shown-none d = parts _ _ _ _ c.cap (lines-remove_entry c.entries a d) (keys-remove_entry a c.entries)

  pub apart-front : (held : Held) → IsApart c → IsApart (with_front c a held)
  apart-front held d = rw (keys-remove_entry a c.entries) (distinct-front a (keys_of c.entries) d)

  pub apart-value : (held : Held) → IsApart c → IsApart (with_value c a held)
  apart-value held d = rw (keys-set_value (nat_eq a) c.entries held) d

  pub apart-none : IsApart c → IsApart (with_none c a)
  apart-none d = rw (keys-remove_entry a c.entries) (distinct-remove_key a (keys_of c.entries) d)

  pub has_room-shown : IsApart c → has_room (shown c) a ≡ nat_lt (length c.entries) c.cap || is_some (lookup (nat_eq a) c.entries)
  has_room-shown d = rw (line_at-shown, len-lines c.entries d) refl

  -- a put where there is room pushes no entry out
  pub front_from_put : (held : Held) → IsApart c → IsTrue (has_room (shown c) a) → lru_cache (put_entries nat_eq c a held) c.cap ≡ with_front c a held
  front_from_put held d room = ap (λ es. lru_cache es c.cap) (put-front a c held (rw (has_room-shown d) at room))

module _ (c : LruCache ℕ Held) where
  pub oldest-shown : least_recently_used (shown c) ≡ option_map (λ e. e.0) (last_entry c.entries)
  oldest-shown = rw (length-map c.entries (λ e. e.0)) (slice_get-map (λ e. e.0) c.entries (length c.entries - 1))

  pub oldest_there : (e : ℕ × Held) → IsApart c → last_entry c.entries ≡ Some e → IsSome (line_at (shown c) e.0)
  oldest_there e d h = ap is_some (get-lines c.entries e.0 ∙ lookup_from_place nat_eq_equiv c.entries (length c.entries - 1) e.0 e.1 d h)

  pub none_oldest : IsApart c → last_entry c.entries ≡ None → map.len (lines c.entries) ≡ 0
  none_oldest d h = len-lines c.entries d ∙ (elim ((slice_get_cases c.entries (length c.entries - 1)).1) [
    | inl i ↦ let bad : Some i.0 ≡ None = sym i.2 ∙ h in absurd cc
    | inr i ↦ let past : length c.entries ≤ length c.entries - 1 = i.0 in omega (arith, past)
  ])
