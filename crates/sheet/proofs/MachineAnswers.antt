-- The machine refuses no step by 1, 2, 11, 12 or 13: those are the calls' and the step program's own. Assumes nothing.
use mathlib.Core.Path.{◌≡◌, refl}
use mathlib.Core.Bool.{Bool, true, false, not, ◌&&◌}
use mathlib.Core.List.{List, [], ◌∷◌}
use mathlib.Core.Option.{none, some}
use Prim.Native.Nat.{ℕ, suc}
use lib.Dec.{leb, ltb, eqb}
use lib.ListN.{length}
use Rattle.cells.specs.Stored.{update_finite}
use Rattle.cells.specs.declared.Cell.{Cell}
use Rattle.protocol.specs.declared.Refusal.{Refusal}
use Rattle.protocol.specs.declared.Refusal.TheVariants.{NoTable, OutsideAllowed, NoDevice, NoCell, NotFinite, NotEstablished, NoPush, NoChannel, NoItem, NothingToDrop, NoRequest, NoConnection, PendingFull, PushesSpent, Held, BufferShort, NoImage, NoStep}
use Rattle.protocol.specs.Machine.{Table, Device, Local, Item, Step, Answer, fine, tell, prefix, segment, choose, done, says_yes, says_no, value, moved, length_is, refused, refused_at, unless, unless_refused, settle, step, update, block, read, confirmed, push, send, ask, drop_channel, receive, pull, accept, serverdrop, batch, crash, cut, update_at, block_at, read_at, confirmed_at, push_at, send_at, ask_at, drop_at, receive_at, pull_at, accept_at, accept_with, serverdrop_at, take_first, view, joined, full, sent_from, is_established, is_off, is_held}
use Rattle.sheet.specs.Changes.{CellUpdate, idle_below, refuses_update}
use Rattle.sheet.specs.Sheet.{sheet}

-- whether the machine may refuse so
abbrev pub of_machine : Refusal → Bool
of_machine NoTable = false
of_machine OutsideAllowed = false
of_machine NoDevice = true
of_machine NoCell = true
of_machine NotFinite = true
of_machine NotEstablished = true
of_machine NoPush = true
of_machine NoChannel = true
of_machine NoItem = true
of_machine NothingToDrop = true
of_machine NoRequest = true
of_machine NoConnection = true
of_machine PendingFull = true
of_machine PushesSpent = true
of_machine Held = true
of_machine BufferShort = false
of_machine NoImage = false
of_machine NoStep = false

abbrev pub is_answer : Answer sheet → Bool
is_answer done = true
is_answer says_yes = true
is_answer says_no = true
is_answer (value c) = true
is_answer (moved k) = true
is_answer (length_is k) = true
is_answer (refused r) = of_machine r
is_answer (refused_at r k) = of_machine r

abbrev comes : Local sheet → Bool
comes (fine y) = true
comes (tell a) = is_answer a

unless_comes : (b : Bool) (r : Refusal) (l : Local sheet) → of_machine r ≡ true → comes l ≡ true → comes (unless sheet b r l) ≡ true
unless_comes true r l e f = e
unless_comes false r l e f = f

settled : (t : Table sheet) (d : ℕ) (b : Bool) (l : Local sheet) → comes l ≡ true → is_answer (settle sheet t d b l).answer ≡ true
settled t d false l e = refl
settled t d true (fine y) e = refl
settled t d true (tell a) e = e

-- an update is refused 4 or 5
updated : (cells d : ℕ) (s : ℕ → Cell) (u : CellUpdate) (f : Refusal → Answer sheet) (l : Local sheet) → ((r : Refusal) → is_answer (f r) ≡ of_machine r) → comes l ≡ true → comes (unless_refused sheet (refuses_update cells d s u) f l) ≡ true
updated cells d s u f l g e = by (leb cells u.cell) (update_finite u.update)
  where
    by : (a b : Bool) → comes (unless_refused sheet (choose a (some NoCell) (choose b none (some NotFinite))) f l) ≡ true
    by true b = g NoCell
    by false true = e
    by false false = g NotFinite

blocked : (cells d k : ℕ) (us : List CellUpdate) (x : Device sheet) → comes (block_at sheet cells d k us x) ≡ true
blocked cells d k [] x = refl
blocked cells d k (u ∷ us) x = updated cells d (view sheet x) u (λ r. refused_at r k) (block_at sheet cells d (suc k) us (joined sheet u x)) (λ r. refl) (blocked cells d (suc k) us (joined sheet u x))

taken_first : (d : ℕ) (is : List (Item sheet)) (x : Device sheet) → comes (take_first sheet d is x) ≡ true
taken_first d [] x = refl
taken_first d (prefix s ns ∷ is) x = refl
taken_first d (segment b ms ∷ is) x = refl

-- each step of a device, by its tests
module _ (x : Device sheet) where
  read_comes : (cells c : ℕ) → comes (read_at sheet cells c x) ≡ true
  unfolding read_at
  read_comes cells c = by (leb cells c) refl
    where
      by : (b : Bool) → leb cells c ≡ b → comes (read_at sheet cells c x) ≡ true
      by true e = rw e
      by false e = rw e

  confirmed_comes : (cells : ℕ) → comes (confirmed_at sheet cells x) ≡ true
  unfolding confirmed_at
  confirmed_comes cells = by (eqb (length x.pending) 0 && eqb x.covered 0 && idle_below cells x.transaction)
    where
      by : (b : Bool) → is_answer (choose b says_yes says_no) ≡ true
      by true = refl
      by false = refl

  push_comes : comes (push_at sheet x) ≡ true
  unfolding push_at
  push_comes = by (leb 1000000 x.last) refl
    where
      by : (b : Bool) → leb 1000000 x.last ≡ b → comes (push_at sheet x) ≡ true
      by true e = rw e
      by false e = rw e

  send_comes : comes (send_at sheet x) ≡ true
  unfolding send_at
  send_comes = unless_comes (not (is_established x.link.channel)) NotEstablished (unless sheet (eqb x.covered 0) NoPush (unless sheet (full sheet x) PendingFull (fine (sent_from sheet x)))) refl
      (unless_comes (eqb x.covered 0) NoPush (unless sheet (full sheet x) PendingFull (fine (sent_from sheet x))) refl
      (unless_comes (full sheet x) PendingFull (fine (sent_from sheet x)) refl refl))

  drop_comes : comes (drop_at sheet x) ≡ true
  unfolding drop_at
  drop_comes = by (is_off x.link.channel) refl
    where
      by : (b : Bool) → is_off x.link.channel ≡ b → comes (drop_at sheet x) ≡ true
      by true e = rw e
      by false e = rw e

  receive_comes : (d : ℕ) → comes (receive_at sheet d x) ≡ true
  unfolding receive_at
  receive_comes d = unless_comes (is_off x.link.channel) NoChannel (take_first sheet d x.link.items x) refl (taken_first d x.link.items x)

  accept_comes : (s : ℕ → Cell) (ns : ℕ → ℕ) → comes (accept_at sheet s ns x) ≡ true
  unfolding accept_at accept_with
  accept_comes s ns = by x.link.request refl (is_held x.link.connection) refl
    where
      by : (a : Bool) → x.link.request ≡ a → (b : Bool) → is_held x.link.connection ≡ b → comes (accept_at sheet s ns x) ≡ true
      by false e b f = rw e
      by true e true f = rw (e, f)
      by true e false f = rw (e, f)

  serverdrop_comes : comes (serverdrop_at sheet x) ≡ true
  unfolding serverdrop_at
  serverdrop_comes = by (is_held x.link.connection) refl
    where
      by : (b : Bool) → is_held x.link.connection ≡ b → comes (serverdrop_at sheet x) ≡ true
      by true e = rw e
      by false e = rw e

  update_comes : (cells d : ℕ) (u : CellUpdate) → comes (update_at sheet cells d u x) ≡ true
  unfolding update_at
  update_comes cells d u = updated cells d (view sheet x) u refused (fine (joined sheet u x)) (λ r. refl) refl

  ask_comes : comes (ask_at sheet x) ≡ true
  unfolding ask_at
  ask_comes = refl

  pull_comes : (d : ℕ) → comes (pull_at sheet d x) ≡ true
  unfolding pull_at
  pull_comes d = refl

pub step_answers : (m : Step sheet) (t : Table sheet) → is_answer (step sheet m t).answer ≡ true
unfolding step
step_answers (update d u) t = settled t d (ltb d t.devices) (update_at sheet t.cells d u (t.device d)) (update_comes (t.device d) t.cells d u)
step_answers (block d us) t = settled t d (ltb d t.devices) (block_at sheet t.cells d 0 us (t.device d)) (blocked t.cells d 0 us (t.device d))
step_answers (read d c) t = settled t d (ltb d t.devices) (read_at sheet t.cells c (t.device d)) (read_comes (t.device d) t.cells c)
step_answers (confirmed d) t = settled t d (ltb d t.devices) (confirmed_at sheet t.cells (t.device d)) (confirmed_comes (t.device d) t.cells)
step_answers (push d) t = settled t d (ltb d t.devices) (push_at sheet (t.device d)) (push_comes (t.device d))
step_answers (send d) t = settled t d (ltb d t.devices) (send_at sheet (t.device d)) (send_comes (t.device d))
step_answers (ask d) t = settled t d (ltb d t.devices) (ask_at sheet (t.device d)) (ask_comes (t.device d))
step_answers (drop_channel d) t = settled t d (ltb d t.devices) (drop_at sheet (t.device d)) (drop_comes (t.device d))
step_answers (receive d) t = settled t d (ltb d t.devices) (receive_at sheet d (t.device d)) (receive_comes (t.device d) d)
step_answers (pull d) t = settled t d (ltb d t.devices) (pull_at sheet d (t.device d)) (pull_comes (t.device d) d)
step_answers (accept d) t = settled t d (ltb d t.devices) (accept_at sheet t.sheet t.taken (t.device d)) (accept_comes (t.device d) t.sheet t.taken)
step_answers (serverdrop d) t = settled t d (ltb d t.devices) (serverdrop_at sheet (t.device d)) (serverdrop_comes (t.device d))
step_answers (batch counts) t = refl
step_answers crash t = refl
step_answers (cut counts j) t = refl
