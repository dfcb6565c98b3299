use Rattle.std.proofs.Common.{arith, rules, tests, ap, refl, suc, ◌≡◌, ◌∙◌, ℕ, Bor, List, option_map}
use Rattle.std.specs.Prelude.{slice_get}
use Rattle.std.proofs.lemmas.Iterator.Consumers.{nth_from_yields_List}
use Rattle.std.proofs.lemmas.Iterator.Splits.{YieldsList-from_slice_split}
use Rattle.log_file.specs.Log.{lines_of}
use Rattle.log_file.proofs.LineOf.{line_got}
use Rattle.log_file.proofs.numbered_line.line_of.Goals as goal

pub returns : goal.returns
returns c =
    let got : option_map (λ (s : Bor (List ℕ)). s.now) c.nth.result ≡ slice_get (lines_of c.args.text.now) c.in-Some.before =
    nth_from_yields_List c.nth.result c.nth.new.self c.in-Some.before c.nth.ensures.ran
    (YieldsList-from_slice_split _ _ c.args.text.now c.split.ensures.rest c.split.ensures.done c.split.ensures.closure (λ x r q k. search (rules, tests))) in
    let number : c.args.number ≡ suc c.in-Some.before = omega (arith, c.in-Some.ensures.0, c.in-Some.ensures.1) in
    ap (λ (s : Bor (List ℕ)). s.now) c.unwrap_or.ensures ∙ line_got (lines_of c.args.text.now) c.args.number c.in-Some.before c.nth.result _ number refl got
