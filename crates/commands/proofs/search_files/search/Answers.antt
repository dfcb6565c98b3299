use Rattle.std.proofs.Common.{rules, ◌≡◌, ◌∙◌, Err, inl, refl, subst}
use Rattle.command_line.specs.declared.request.Request.TheVariants as request
use Rattle.host_files.specs.Files.{Files, IsUnread}
use Rattle.log_file.specs.Sinks.{sink_of}
use Rattle.commands.proofs.Files.{keeps_files}
use Rattle.commands.proofs.Performed.{given_fault, not_printed, read_refused, text_fault}
use Rattle.commands.specs.Searching.{IsOutputName}
use Rattle.commands.specs.declared.place.Input.TheVariants as input
use Rattle.commands.specs.declared.refusal.Refusal.TheVariants.{OutOfMemory, Undecided}
use Rattle.commands.specs.inner.Performing.{Came}
use Rattle.commands.proofs.search_files.search.Goals as goal

pub returns-in_err-names : goal.returns-in_err-names
returns-in_err-names g c =
    let asked = request.Search c.args.asked.now in
    let refusal = c.in_err-names.field-0.0 in
    let is : c.from_residual.result ≡ Err refusal = search rules in
    rw is (read_refused _ _ _ _ _ asked refusal (given_fault _ asked input.Names c.args.asked.now.names refusal refl c.in_err-names.ensures.err) c.in_err-names.ensures.read (inl refl))

pub returns-in_err-read : goal.returns-in_err-read
returns-in_err-read g c =
    let files = g.F.Folder.files in
    let asked = request.Search c.args.asked.now in
    let new = files c.read_files.new.folder in
    let out = sink_of g.O.ByteSink.contents g.O.ByteSink.failed c.args.out.now in
    let refusal = c.in_err-read.field-0.0 in
    let is : c.from_residual-in_err-read.result ≡ Err refusal = search rules in
    rw is (subst (λ (f : Files). Came f new (IsUnread g.F.Source.ByteSource.remaining g.F.Source.ByteSource.failed f new) out out asked (Err refusal)) c.in_ok-names.ensures.quiet
    (read_refused _ _ _ _ _ asked refusal (c.in_err-read.ensures.err asked refl refl) c.in_err-read.ensures.read (inl refl)))

pub returns-in_err-order : goal.returns-in_err-order
returns-in_err-order g c =
    let asked = c.args.asked.now in
    let same = c.in_ok-read.ensures.quiet ∙ c.in_ok-names.ensures.quiet in
    let is : c.from_residual-in_err-order.result ≡ Err OutOfMemory = search rules in
    rw is (not_printed _ _ _ _ _ (request.Search asked) OutOfMemory tt (keeps_files _ _ (IsOutputName asked) (inl same)) (inl refl))

pub show_order-requires-clause-read : goal.show_order-requires-clause-read
show_order-requires-clause-read g c = rw c.in_ok-read.ensures.quiet c.in_ok-read.ensures.ok

pub show_refutation-requires-clause-read : goal.show_refutation-requires-clause-read
show_refutation-requires-clause-read g c = rw c.in_ok-read.ensures.quiet c.in_ok-read.ensures.ok

pub returns-in-Order : goal.returns-in-Order
returns-in-Order g c =
    let files = g.F.Folder.files in
    let new = files c.show_order.new.folder in
    let sink = sink_of g.O.ByteSink.contents g.O.ByteSink.failed in
    subst (λ (f : Files). Came f new (IsUnread g.F.Source.ByteSource.remaining g.F.Source.ByteSource.failed f new) (sink c.args.out.now) (sink c.show_order.new.out) (request.Search c.args.asked.now) c.show_order.result)
    (c.in_ok-read.ensures.quiet ∙ c.in_ok-names.ensures.quiet) c.show_order.ensures

pub returns-in-Refutation : goal.returns-in-Refutation
returns-in-Refutation g c =
    let files = g.F.Folder.files in
    let new = files c.show_refutation.new.folder in
    let sink = sink_of g.O.ByteSink.contents g.O.ByteSink.failed in
    subst (λ (f : Files). Came f new (IsUnread g.F.Source.ByteSource.remaining g.F.Source.ByteSource.failed f new) (sink c.args.out.now) (sink c.show_refutation.new.out) (request.Search c.args.asked.now) c.show_refutation.result)
    (c.in_ok-read.ensures.quiet ∙ c.in_ok-names.ensures.quiet) c.show_refutation.ensures

pub returns : goal.returns
returns g c =
    let asked = request.Search c.args.asked.now in
    read_refused _ _ _ _ _ asked Undecided (text_fault _ asked Undecided tt) (inl (c.in_ok-read.ensures.quiet ∙ c.in_ok-names.ensures.quiet)) (inl refl)
