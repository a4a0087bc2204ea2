-- `coding::cell::cell_token` meets its contract, case by case.
use mathlib.Core.Path.{◌∙◌, ap, subst, sym}
use mir.Syntax.{w64}
use mir.ValLaws.{to_z-of_z}
use Rattle.cbor.specs.declared.token.Token.TheVariants.{Float}
use Rattle.coding.specs.Item.{CellAllowed, cell_token, count_token}
use Rattle.coding.proofs.cell.cell_token.Goals as goal

pub bits_of_f64-requires : goal.bits_of_f64-requires
bits_of_f64-requires c = (subst CellAllowed c.in-Measure.is c.requires).finite

pub returns-in-Blank : goal.returns-in-Blank
unfolding cell_token
returns-in-Blank c = sym (ap cell_token c.in-Blank.is)

pub returns-in-Count : goal.returns-in-Count
unfolding cell_token
returns-in-Count c =
    let v = c.in-Count in
    let a = subst CellAllowed v.is c.requires in
    c.count_token.ensures ∙ ap count_token (to_z-of_z w64 v.v a.fits) ∙ sym (ap cell_token v.is)

pub returns-in-Measure : goal.returns-in-Measure
unfolding cell_token
returns-in-Measure c = ap Float c.bits_of_f64.ensures ∙ sym (ap cell_token c.in-Measure.is)
