use Rattle.std.proofs.Common.{rules, ◌≡◌, ℕ, List, [], Option, Some, None, Bor, refl, ap, ◌∙◌}
use Rattle.std.specs.Option.{unwrap_or, option_map}
use Rattle.std.proofs.lemmas.Iterator.Consumers.{nth_from_yields_List}
use Rattle.std.proofs.lemmas.Iterator.Splits.{YieldsList-from_slice_split}
use Rattle.text.proofs.Parts.{is_comma, field_split}
use Rattle.text.proofs.field.field.Goals as goal

now_of : (r : Option (Bor (List ℕ))) (d : Bor (List ℕ)) → (unwrap_or r d).now ≡ unwrap_or (option_map (λ (x : Bor (List ℕ)). x.now) r) d.now
now_of None d = refl
now_of (Some x) d = refl

pub returns : goal.returns
returns c =
    ap (λ (b : Bor (List ℕ)). b.now) c.unwrap_or.ensures
    ∙ now_of c.nth.result _
    ∙ ap (λ (o : Option (List ℕ)). unwrap_or o []) (nth_from_yields_List c.nth.result _ c.args.k c.nth.ensures.ran (YieldsList-from_slice_split _ is_comma c.args.line.now c.split.ensures.rest c.split.ensures.done c.split.ensures.closure (search rules)))
    ∙ field_split c.args.k c.args.line.now
