-- Every starred line holds: those on images by Images, the others by computing. Assumes nothing.
use mathlib.Core.Path.{refl}
use Rattle.cells.specs.Wrap.{wrap_add}
use Rattle.protocol.specs.History.{Every}
use Rattle.protocol.specs.Machine.{step, update_at, read_at, push_at, send_at, ask_at, receive_at, pull_at, accept_at, accept_with}
use Rattle.desk.specs.Desk.{Holds, desk}
use Rattle.desk.proofs.Images.{first_allowed, first_bytes, longer_refused}

pub desk_holds : Every Holds desk
unfolding wrap_add step update_at read_at push_at send_at ask_at receive_at pull_at accept_at accept_with
desk_holds = (refl, (refl, (refl, (refl, (refl, (refl, ((refl, refl, refl, refl), ((refl, refl, refl, refl), ((refl, refl, refl, refl), ((first_allowed, first_bytes), (λ xs ys a O. O.no_image longer_refused, tt)))))))))))
