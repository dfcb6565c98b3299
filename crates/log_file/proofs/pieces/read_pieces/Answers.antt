-- A piece that is refused.
use Rattle.std.proofs.Common.{ℕ, Err, ap, ◌∙◌}
use Rattle.std.specs.Global.{Vec}
use Rattle.std.proofs.lemmas.Result.{err_from_is_err_and}
use Rattle.log_file.proofs.Fed.{piece_refused}
use Rattle.log_file.proofs.pieces.read_pieces.Goals as goal

pub returns-in_err-feed : goal.returns-in_err-feed
returns-in_err-feed c =
    let p = err_from_is_err_and c.from_residual.result c.from_residual.ensures.1 in
    let loop = c.loop-piece in
    let inv = loop.invariant in
    piece_refused c.args.core c.args.cores loop.reader.core loop.reader.cores c.args.pieces.now loop.piece-index c.piece-item.result c.deref.result.now c.in_err-feed.field-0.0
    loop.reader.fed c.feed.new.self.fed c.from_residual.result (p.1 ∙ ap (λ x. Err x) p.2) c.loop-piece-test.true
    (c.deref.ensures.value ∙ ap (λ (v : Vec ℕ). v.items) c.piece-item.is) inv.0 inv.1 inv.2 c.in_err-feed.ensures.fed
