use Rattle.std.proofs.Common.{◌∙◌, inl, inr, refl, subst, sym, ℕ, List}
use Rattle.host_files.specs.Files.{IsUnread}
use Rattle.commands.proofs.Files.{keeps_files}
use Rattle.command_line.specs.Asking.{IsRefusalOf, texts}
use Rattle.commands.proofs.Performed.{memory_status, not_refused, refused_call, still_unread, told_aside, told_two}
use Rattle.commands.proofs.Unread.{put_unread}
use Rattle.commands.specs.Promises.{AreToldAside, IsAnswered}
use Rattle.commands.specs.Refusals.{refusal_text}
use Rattle.commands.specs.declared.refusal.Refusal.TheVariants.{OutOfMemory}
use Rattle.log_file.specs.Sinks.{sink_of}
use Rattle.commands.proofs.call.command.Goals as goal

pub returns-in-Err-Usage-clause-refused : goal.returns-in-Err-Usage-clause-refused
returns-in-Err-Usage-clause-refused g c two =
    let words = texts c.args.words.now in
    inl (record { files = refl; output = refl; told = c.tell_usage.ensures; reason = inl (refl, subst (IsRefusalOf words) c.in-Err-Usage.field-0-is c.in-Err-Usage.ensures.usage) })

pub returns-in-Err-OutOfMemory-clause-answered : goal.returns-in-Err-OutOfMemory-clause-answered
returns-in-Err-OutOfMemory-clause-answered g c low =
    let (told, which, takes, status) = c.refuse.ensures in
    told_two _ OutOfMemory told _ (λ one. cc) which status low

pub returns-in-Err-OutOfMemory-clause-aside : goal.returns-in-Err-OutOfMemory-clause-aside
returns-in-Err-OutOfMemory-clause-aside g c low =
    let (told, which, takes, status) = c.refuse.ensures in
    told_two _ OutOfMemory told _ (λ one. cc) which status low

pub returns-in-Err-OutOfMemory-clause-refused : goal.returns-in-Err-OutOfMemory-clause-refused
returns-in-Err-OutOfMemory-clause-refused g c two =
    let (told, which, takes, status) = c.refuse.ensures in
    inl (record { files = refl; output = refl; told = (refusal_text told, takes); reason = inr (memory_status told _ which status) })

pub returns-in-Ok-perform-clause-answered : goal.returns-in-Ok-perform-clause-answered
returns-in-Ok-perform-clause-answered g c low =
    let files = g.F.Folder.files in
    let sink = sink_of g.O.ByteSink.contents g.O.ByteSink.failed in (
      c.in-Ok.request,
      c.in-Ok.ensures.request,
      c.in-Ok.ensures.apart,
      subst (IsAnswered (files c.args.folder.now) (files c.perform.new.folder) (sink c.args.out.now) (sink c.perform.new.out) c.in-Ok.request) (sym c.tell_answer.ensures.status) c.in-Ok-perform.ensures.answered,
    )

pub returns-in-Ok-perform-clause-aside : goal.returns-in-Ok-perform-clause-aside
returns-in-Ok-perform-clause-aside g c low =
    let told = (g.F.Folder.files c.args.folder.now).told in
    let sink = sink_of g.E.ByteSink.contents g.E.ByteSink.failed in
    let err = sink c.args.err.now in
    let err' = sink c.tell_answer.new.err in (
      c.in-Ok.request,
      c.in-Ok.ensures.request,
      c.in-Ok.ensures.apart,
      subst (AreToldAside told err err' c.in-Ok.request) (sym c.tell_answer.ensures.status)
          (told_aside told err err' c.in-Ok.request c.in-Ok-perform.answer c.in-Ok-perform.ensures.aside c.tell_answer.ensures.aside),
    )

pub returns-in-Ok-perform-clause-files : goal.returns-in-Ok-perform-clause-files
returns-in-Ok-perform-clause-files g c name none =
    c.in-Ok-perform.ensures.files name (λ is. none (c.in-Ok.request, c.in-Ok.ensures.request, c.in-Ok.ensures.apart, (is, put_unread c.in-Ok.request c.in-Ok.ensures.apart name is)))

pub returns-in-Ok-perform-clause-refused : goal.returns-in-Ok-perform-clause-refused
returns-in-Ok-perform-clause-refused g c two = not_refused _ c.in-Ok-perform.answer _ c.tell_answer.ensures.status two

pub returns-clause-answered : goal.returns-clause-answered
returns-clause-answered g c low =
    let (told, which, takes, status) = c.refuse-status.ensures in
    told_two _ c.in-Err.refusal told _ c.in-Err.ensures.refuted which status low

pub returns-clause-aside : goal.returns-clause-aside
returns-clause-aside g c low =
    let (told, which, takes, status) = c.refuse-status.ensures in
    told_two _ c.in-Err.refusal told _ c.in-Err.ensures.refuted which status low

pub returns-clause-files : goal.returns-clause-files
returns-clause-files g c name none =
    keeps_files _ _ (λ (other : List ℕ). ⊥) c.tell_more.ensures.read name (λ never. never)
    ∙ c.in-Err.ensures.files name (λ is. none (c.in-Ok.request, c.in-Ok.ensures.request, c.in-Ok.ensures.apart, (is, put_unread c.in-Ok.request c.in-Ok.ensures.apart name is)))

pub returns-clause-refused : goal.returns-clause-refused
returns-clause-refused g c two =
    let files = g.F.Folder.files in
    let remaining = g.F.Source.ByteSource.remaining in
    let failed = g.F.Source.ByteSource.failed in
    let old = files c.args.folder.now in
    let (told, which, takes, status) = c.refuse-status.ensures in
    inr (
      c.in-Ok.request,
      c.in-Ok.ensures.request,
      c.in-Ok.ensures.apart,
      refused_call old _ _ (IsUnread remaining failed old) _ _ _ _ _ c.in-Ok.request c.in-Err.refusal told _ c.in-Err.ensures.refused c.tell_more.ensures.quiet c.tell_more.ensures.read
          (still_unread remaining failed old _ _ c.tell_more.ensures.read) which takes status,
    )
