-- The words stay those of the last stores.
use Rattle.std.proofs.Common.{◌≡◌, ◌∙◌, ◌<◌, arith, sym, true}
use Rattle.address_check.specs.AddressFaults.{is_store}
use Rattle.merge_judge.proofs.WordFacts.{holds_store}
use Rattle.merge_judge.proofs.sourced_memory.SourcedMemory.perform.Goals as goal

pub returns-then-is_store-clause-holds : goal.returns-then-is_store-clause-holds
returns-then-is_store-clause-holds c done h =
    let stores : is_store c.args.entry.now.logged.act ≡ true = sym c.is_store.ensures ∙ c.if-is_store.true in
    let addr : c.get-addr.result ≡ c.args.entry.now.logged.addr = c.get-addr.ensures.value in
    let within : c.get-addr.result < 65536 = omega (arith, c.get-addr.ensures.value, c.get-addr.ensures.in_range) in
    holds_store c.args.self.now.values.items c.args.self.now.sources.items done c.args.entry.now h c.get-addr.result addr within stores
