-- The words of the grammar are told apart, and have no commas. Assumes nothing.
use Prim.Native.Nat.{ℕ}
use mathlib.Core.Path.{◌≡◌, subst}
use mathlib.Core.List.{List}
use mathlib.Core.Bool.{cond}
use Rattle.std.specs.Prelude.{bytes_eq, Option, Some, None, option_map}
use Rattle.text.specs.Text.{Without}
use Rattle.text.proofs.Fields.{tested}
use Rattle.text.proofs.Without.{without}
use Rattle.wording.specs.Names.{start_text, update_text, read_text, batch_text, cut_text, crash_text, act_text}
use Rattle.wording.specs.Names.{kind_of, act_of}
use Rattle.wording.specs.declared.names.Act.{Act}
use Rattle.wording.specs.declared.names.Kind.{Kind}
use Rattle.wording.proofs.KindNames.{name_of}

-- what a first field is, by what it names
abbrev KindIs : List ℕ → Option Kind → Type 0
KindIs f (Some k) = f ≡ name_of k
KindIs f None = Unit

abbrev ActIs : List ℕ → Option Act → Type 0
ActIs f (Some a) = f ≡ act_text a
ActIs f None = Unit

module _ (f : List ℕ) where
  act : (a : Act) (y : Option Act) → ActIs f y → ActIs f (cond (bytes_eq f (act_text a)) (Some a) y)
  act a y q = tested (ActIs f) f (act_text a) q (λ e. e)

  act_sound : ActIs f (act_of f)
  unfolding act_of
  act_sound =
      act Act.Push _ (
      act Act.Send _ (
      act Act.Confirmed _ (
      act Act.Ask _ (
      act Act.Drop _ (
      act Act.Receive _ (
      act Act.Pull _ (
      act Act.Accept _ (
      act Act.Serverdrop _ tt))))))))

  device : (o : Option Act) → ActIs f o → KindIs f (option_map Kind.Device o)
  device (Some a) q = q
  device None q = tt

  any_sound : KindIs f (kind_of f)
  unfolding kind_of
  any_sound =
      tested (KindIs f) f start_text (
      tested (KindIs f) f update_text (
      tested (KindIs f) f read_text (
      tested (KindIs f) f batch_text (
      tested (KindIs f) f cut_text (
      tested (KindIs f) f crash_text (device (act_of f) act_sound) (λ e. e)) (λ e. e)) (λ e. e)) (λ e. e)) (λ e. e)) (λ e. e)

  pub kind_sound : (k : Kind) → kind_of f ≡ Some k → f ≡ name_of k
  kind_sound k e = subst (KindIs f) e any_sound

-- no name has a comma
act_plain : (a : Act) → Without 44 (act_text a)
act_plain Act.Push = without 44 (act_text Act.Push) tt
act_plain Act.Send = without 44 (act_text Act.Send) tt
act_plain Act.Confirmed = without 44 (act_text Act.Confirmed) tt
act_plain Act.Ask = without 44 (act_text Act.Ask) tt
act_plain Act.Drop = without 44 (act_text Act.Drop) tt
act_plain Act.Receive = without 44 (act_text Act.Receive) tt
act_plain Act.Pull = without 44 (act_text Act.Pull) tt
act_plain Act.Accept = without 44 (act_text Act.Accept) tt
act_plain Act.Serverdrop = without 44 (act_text Act.Serverdrop) tt

pub name_plain : (k : Kind) → Without 44 (name_of k)
name_plain Kind.Start = without 44 start_text tt
name_plain Kind.Update = without 44 update_text tt
name_plain Kind.Read = without 44 read_text tt
name_plain Kind.Batch = without 44 batch_text tt
name_plain Kind.Cut = without 44 cut_text tt
name_plain Kind.Crash = without 44 crash_text tt
name_plain (Kind.Device a) = act_plain a
