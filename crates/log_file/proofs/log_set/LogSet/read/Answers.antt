-- The set so far, one more file; and the file that is refused.
use Rattle.std.proofs.Common.{◌≡◌, ◌∙◌, ◌++◌, ◌∷◌, [], ◌<◌, List, Err, ap, arith, length, refl, rules, subst, sym}
use Rattle.log_record.specs.declared.record.Record.{Record}
use Rattle.std.proofs.Math.Seq.{map-set_same}
use Rattle.log_file.specs.declared.fault.LogFault.TheVariants.{OutOfMemory}
use Rattle.log_file.specs.Devices.{Tells}
use Rattle.log_file.specs.Answers.{IsFaultOrDevice}
use Rattle.log_file.specs.Log.{Spells}
use Rattle.log_file.specs.Sets.{SpellSet}
use Rattle.log_file.specs.SetKeeping.{IsLogSet}
use Rattle.log_record.specs.Entries.{core_entries}
use Rattle.log_file.proofs.Fed.{same_log}
use Rattle.log_file.proofs.Joined.{kept_again, log_kept, set_made}
use Rattle.log_file.proofs.Sets.{count_so_far, same_reader, same_behind, set_more, set_refused, set_done, set_failed, set_count, spelled_short}
use Rattle.log_file.proofs.log_set.LogSet.read.Goals as goal

pub returns-in-Err-clause-answer : goal.returns-in-Err-clause-answer
returns-in-Err-clause-answer g c =
    let rem = g.S.ByteSource.remaining in
    let x = c.index-readers-file.result in
    let loop = c.loop-file in
    let readers = c.args.readers.now in
    let so_far = loop.invariant.0 in
    let a = c.in-Err.ensures.answer in
    let same = same_reader loop.readers readers loop.file x loop.invariant.1 in
    let tells = subst (λ s. Tells (rem s) a.0) same a.1 in
    let holds : IsFaultOrDevice loop.file (length readers) a.0 c.in-Err.fault =
    same_log (λ core cores. IsFaultOrDevice core cores a.0 c.in-Err.fault) (c.new-fresh.ensures.core ∙ c.at-core.ensures) (c.new-fresh.ensures.cores ∙ loop.invariant.2) a.2 in
    set_refused rem readers loop.file (length readers) x so_far.0 a.0 c.in-Err.fault
    (omega arith) loop.invariant.2 so_far.1 tells holds

pub returns-in-Err-clause-read : goal.returns-in-Err-clause-read
returns-in-Err-clause-read g c = λ e.
    let failed = c.in-Err.ensures.read (ap (λ f. Err f) e) in
    let loop = c.loop-file in
    set_failed g.S.ByteSource.failed c.args.readers.now loop.readers loop.file c.index-readers-file.result c.read_list.new.source (omega arith) (omega arith) loop.invariant.1 c.index-readers-file.is failed

pub returns-in-Err-clause-quiet : goal.returns-in-Err-clause-quiet
returns-in-Err-clause-quiet g c = λ other.
    let loop = c.loop-file in
    let x = c.index-readers-file.result in
    map-set_same g.S.ByteSource.failed loop.readers loop.file c.read_list.new.source x
    (c.in-Err.ensures.quiet (λ e. other cc)) ∙ loop.invariant.3

pub returns-then-is_err-clause-quiet : goal.returns-then-is_err-clause-quiet
returns-then-is_err-clause-quiet g c = λ other.
    let loop = c.loop-file in
    let x = c.index-readers-file.result in
    map-set_same g.S.ByteSource.failed loop.readers loop.file c.read_list.new.source x
    (c.in-Ok.ensures.quiet (λ e. cc)) ∙ loop.invariant.3

pub returns-then-is_err-clause-answer : goal.returns-then-is_err-clause-answer
returns-then-is_err-clause-answer g c =
    let rem = g.S.ByteSource.remaining in
    let x = c.index-readers-file.result in
    let loop = c.loop-file in
    let readers = c.args.readers.now in
    let so_far = loop.invariant.0 in
    let a = c.in-Ok.ensures.answer in
    let same = same_reader loop.readers readers loop.file x loop.invariant.1 in
    let tells = subst (λ s. Tells (rem s) a.0) same a.1 in
    set_refused rem readers loop.file (length readers) x so_far.0 a.0 OutOfMemory
    (omega arith) loop.invariant.2 so_far.1 tells tt

pub loop-file-preserved : goal.loop-file-preserved
loop-file-preserved g c =
    let rem = g.S.ByteSource.remaining in
    let x = c.index-readers-file.result in
    let loop = c.loop-file in
    let readers = c.args.readers.now in
    let so_far = loop.invariant.0 in
    let below : loop.file < length readers = omega arith in
    let a = c.in-Ok.ensures.answer in
    let list = c.in-Ok.list in
    let log = list.records in
    let same = same_reader loop.readers readers loop.file x loop.invariant.1 in
    let tells = subst (λ s. Tells (rem s) a.0) same a.1 in
    let spells : Spells loop.file (length readers) a.0 log =
    same_log (λ core cores. Spells core cores a.0 log) (c.new-fresh.ensures.core ∙ c.at-core.ensures) (c.new-fresh.ensures.cores ∙ loop.invariant.2) a.2 in
    let entries = c.into_entries.result.items in
    let pushed : c.push.new.self.items ≡ loop.ends.items ++ length entries ∷ [] = search rules in
    let read : entries ≡ loop.entries.items ++ core_entries c.at-core.result 0 log = search rules in
    let core-is : c.at-core.result ≡ length so_far.0 = omega (arith, c.at-core.ensures, count_so_far rem readers loop.file (length readers) so_far.0 (omega (arith, below)) so_far.1) in (
      (
        so_far.0 ++ log ∷ [],
        set_more rem readers loop.file (length readers) x so_far.0 log a.0 below so_far.1 tells spells,
        log_kept loop.entries.items entries loop.ends.items c.push.new.self.items so_far.0 log c.at-core.result so_far.2 core-is read pushed,
      ),
      same_behind loop.readers readers loop.file c.read_list.new.source loop.invariant.1,
      refl,
      map-set_same g.S.ByteSource.failed loop.readers loop.file c.read_list.new.source x (c.in-Ok.ensures.quiet (λ e. cc)) ∙ loop.invariant.3,
    )

pub invariant_of-result : goal.invariant_of-result
invariant_of-result g c =
    let loop = c.loop-file in
    let readers = c.args.readers.now in
    let so_far = loop.invariant.0 in
    let many = set_count g.S.ByteSource.remaining readers loop.file (length readers) so_far.0 (omega arith) so_far.1 in
    let set : IsLogSet so_far.0 = record {
      few = omega (arith, many, c.requires);
      short = spelled_short 0 (length readers) so_far.1.0 so_far.0 so_far.1.2;
    } in
    set_made loop.entries.items loop.ends.items so_far.0 so_far.2 set

pub returns-clause-answer : goal.returns-clause-answer
returns-clause-answer g c =
    let loop = c.loop-file in
    let readers = c.args.readers.now in
    let so_far = loop.invariant.0 in
    let done = set_done g.S.ByteSource.remaining readers loop.file (length readers) so_far.0 (omega arith) loop.invariant.2 so_far.1 in
    (done.0, done.1, subst (λ (logs : List (List Record)). SpellSet done.0 logs) (sym (kept_again loop.entries.items loop.ends.items so_far.0 so_far.2)) done.2)

pub returns-clause-count : goal.returns-clause-count
returns-clause-count g c =
    let loop = c.loop-file in
    let readers = c.args.readers.now in
    let so_far = loop.invariant.0 in
    ap length (kept_again loop.entries.items loop.ends.items so_far.0 so_far.2)
    ∙ set_count g.S.ByteSource.remaining readers loop.file (length readers) so_far.0 (omega arith) so_far.1
