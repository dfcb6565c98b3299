use Rattle.std.proofs.Common.{refl}
use Rattle.command_line.specs.declared.request.Request.TheVariants as request
use Rattle.commands.proofs.Performed.{printed}
use Rattle.commands.specs.declared.answer.CommandAnswer.TheVariants.{Version}
use Rattle.commands.proofs.call.perform.Goals as goal

pub returns-in-Check : goal.returns-in-Check
returns-in-Check g c = rw c.in-Check.is c.check.ensures

pub returns-in-Order : goal.returns-in-Order
returns-in-Order g c = rw c.in-Order.is c.order.ensures

pub returns-in-Explain : goal.returns-in-Explain
returns-in-Explain g c = rw c.in-Explain.is c.explain.ensures

pub returns-in-Inspect : goal.returns-in-Inspect
returns-in-Inspect g c = rw c.in-Inspect.is c.inspect.ensures

pub returns-in-Sim : goal.returns-in-Sim
returns-in-Sim g c = rw c.in-Sim.is c.sim.ensures

pub returns-in-Run : goal.returns-in-Run
returns-in-Run g c = rw c.in-Run.is c.run.ensures

pub returns-in-Upgrade : goal.returns-in-Upgrade
returns-in-Upgrade g c = rw c.in-Upgrade.is c.upgrade.ensures

pub returns-in-Search : goal.returns-in-Search
returns-in-Search g c = rw c.in-Search.is c.search.ensures

pub returns-in-Confirm : goal.returns-in-Confirm
returns-in-Confirm g c = rw c.in-Confirm.is c.confirm.ensures

pub returns-in-Vet : goal.returns-in-Vet
returns-in-Vet g c = rw c.in-Vet.is c.vet.ensures

pub returns-in-Replay : goal.returns-in-Replay
returns-in-Replay g c = rw c.in-Replay.is c.replay.ensures

pub returns-in-Litmus : goal.returns-in-Litmus
returns-in-Litmus g c = rw c.in-Litmus.is c.count_outcomes.ensures

pub returns-in-Version : goal.returns-in-Version
returns-in-Version g c =
    rw c.in-Version.is (printed _ _ _ _ _ request.Version Version _ c.print_answer.ensures (λ name none. refl) (λ took. record {
      sound = λ zero. tt;
      flat = λ zero. tt;
      no = λ one. tt;
      order = λ zero. tt;
      printed = tt;
      shown = tt;
      counted = tt;
      vetted = λ zero. tt;
      another = tt;
      upgraded = λ zero. tt;
      yes = λ zero apart. tt;
    }) tt (λ refusal short. tt))
