-- The ids so far come one after the other.
use Rattle.std.proofs.Common.{◌≡◌, length, take}
use Rattle.flat_replay.proofs.Replaying.{Replayed}
use Rattle.flat_replay.specs.Accesses.{operation_lists}
use Rattle.flat_replay.specs.Memory.{word_at}
use Rattle.flat_replay.specs.Orders.{ComeInOrder}
use Rattle.flat_replay.proofs.replay.first_wrong_place.Given as goal

abbrev pub invariant-replaying : goal.invariant-replaying
invariant-replaying l = record {
  replayed : Replayed (operation_lists l.cores) (take l.place l.ids) l.next.items (word_at l.memory);
  many : length l.next.items ≡ length (operation_lists l.cores);
  order : ComeInOrder (operation_lists l.cores) l.ids l.place;
}
