-- The names of steps: each is read as its kind. Assumes nothing.
use Prim.Native.Nat.{ℕ}
use mathlib.Core.Path.{◌≡◌, refl, ap, sym, ◌∙◌}
use mathlib.Core.List.{List}
use lib.ListN.{length}
use Rattle.std.specs.Prelude.{Some}
use Rattle.std.proofs.lemmas.Slice.Eq.{HasBytesAt, text_from_reads}
use Rattle.wording.specs.Names.{start_text, update_text, read_text, batch_text, cut_text, crash_text, act_text, kind_of, act_of}
use Rattle.wording.specs.declared.names.Act.{Act}
use Rattle.wording.specs.declared.names.Kind.{Kind}

-- the name of each kind
abbrev pub name_of : Kind → List ℕ
name_of Kind.Start = start_text
name_of Kind.Update = update_text
name_of Kind.Read = read_text
name_of Kind.Batch = batch_text
name_of Kind.Cut = cut_text
name_of Kind.Crash = crash_text
name_of (Kind.Device a) = act_text a

act_kind : (a : Act) → kind_of (act_text a) ≡ Some (Kind.Device a)
unfolding kind_of act_of
act_kind Act.Push = refl
act_kind Act.Send = refl
act_kind Act.Confirmed = refl
act_kind Act.Ask = refl
act_kind Act.Drop = refl
act_kind Act.Receive = refl
act_kind Act.Pull = refl
act_kind Act.Accept = refl
act_kind Act.Serverdrop = refl

pub name_kind : (k : Kind) → kind_of (name_of k) ≡ Some k
unfolding kind_of act_of
name_kind Kind.Start = refl
name_kind Kind.Update = refl
name_kind Kind.Read = refl
name_kind Kind.Batch = refl
name_kind Kind.Cut = refl
name_kind Kind.Crash = refl
name_kind (Kind.Device a) = act_kind a

-- a first field that has the bytes of a kind's name
pub named : (f : List ℕ) (k : Kind) → length f ≡ length (name_of k) → HasBytesAt f 0 (name_of k) → Some k ≡ kind_of f
named f k l r = sym (ap kind_of (text_from_reads f (name_of k) l r) ∙ name_kind k)
