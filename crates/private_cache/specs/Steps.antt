-- What each call makes of a cache: of its lines, by the table, and of the order of use.
use Rattle.std.specs.Prelude.{◌≡◌, ℕ, ◌-◌, ◌≤◌, Bool, true, false, not, ◌||◌, nat_eq, nat_lt, if◌then◌else◌, [], ◌∷◌, length, slice_get, Option, Some, None, is_some}
use Rattle.std.specs.FinMap as map
use Rattle.std.specs.Set.{remove_key}
use Rattle.line_stamps.specs.declared.line.Line.{Line}
use Rattle.line_stamps.specs.declared.message.Recall.{Recall}
use Rattle.line_stamps.specs.declared.message.Reply.{Reply}
use Rattle.private_cache.specs.declared.held.Held.{Held}
use Rattle.private_cache.specs.CacheParts.{CacheParts}
use Rattle.private_cache.specs.Table.{put, is_shared, Hit, left, filled}

abbrev pub empty_cache : ℕ → CacheParts
empty_cache capacity = record { lines = map.empty; order = []; capacity = capacity }

abbrev pub line_at : CacheParts → ℕ → Option Held
line_at c a = map.get c.lines a

-- the address gets this line and becomes the most recently used
abbrev pub used : CacheParts → ℕ → Held → CacheParts
used c a held = record {
  lines = put c.lines a (Some held);
  order = a ∷ remove_key (nat_eq a) c.order;
  capacity = c.capacity;
}

-- the address gets this line, and the order of use stays
abbrev pub kept : CacheParts → ℕ → Held → CacheParts
kept c a held = record c { lines = put c.lines a (Some held) }

-- the address has no line any more
abbrev pub without : CacheParts → ℕ → CacheParts
without c a = record {
  lines = put c.lines a None;
  order = remove_key (nat_eq a) c.order;
  capacity = c.capacity;
}

-- a hit uses its line; a miss changes nothing
abbrev pub after_operation : CacheParts → ℕ → Option Hit → CacheParts
after_operation c a None = c
after_operation c a (Some hit) = used c a hit.held

-- a line that its owner keeps doesn't count as used by that
abbrev pub with_left : CacheParts → ℕ → Option Held → CacheParts
with_left c a None = without c a
with_left c a (Some held) = kept c a held

-- if nothing is given back, nothing changes
abbrev pub after_recall : CacheParts → Recall → Option Line → CacheParts
after_recall c recall None = c
after_recall c recall (Some l) = with_left c recall.addr (left recall.kind l)

-- there is room for one more line, or the address has one
abbrev pub has_room : CacheParts → ℕ → Bool
has_room c a = nat_lt (map.len c.lines) c.capacity || is_some (line_at c a)

-- the line that a reply makes, or None if the reply doesn't fit the line or the cache
abbrev pub fill_line : CacheParts → ℕ → Reply → Option Held
fill_line c a reply = if has_room c a then filled (line_at c a) reply else None

abbrev pub least_recently_used : CacheParts → Option ℕ
least_recently_used c = slice_get c.order (length c.order - 1)

abbrev pub is_exclusive : Option Held → Bool
is_exclusive None = false
is_exclusive (Some held) = not (is_shared held)

-- the least address whose line is Exclusive, or None if no line is
abbrev pub IsLeastExclusive : CacheParts → Option ℕ → Type 0
IsLeastExclusive c None = (a : ℕ) → is_exclusive (line_at c a) ≡ false
IsLeastExclusive c (Some least) =
    (is_exclusive (line_at c least) ≡ true) × ((a : ℕ) → is_exclusive (line_at c a) ≡ true → least ≤ a)
