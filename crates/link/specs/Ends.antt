-- "serverdrop ends one connection .. crash ends all connections so, and all requests". Assumes nothing.
use Rattle.std.specs.Prelude.{Bool, false, List, ℕ, get_or}
use Rattle.protocol.specs.Machine.{Device, Local, fine, with_link, cut_off}
use Rattle.sheet.specs.Sheet.{sheet}
use Rattle.words.specs.Layout.{TAKEN}
use Rattle.record.specs.Reading.{device_of}
use Rattle.link.specs.Turn.{Turned}

-- What both have in common: the device's link without a connection, and with or without a request.
abbrev pub ended : Bool → Device sheet → Device sheet
ended r x = with_link sheet x (cut_off sheet r x.link)

-- The step on one device: nothing is refused.
abbrev pub end_at : Bool → Device sheet → Local sheet
end_at r x = fine (ended r x)

-- A crash on one device's record: no connection and no request.
abbrev pub Ended : (devices cells : ℕ) → List ℕ → List ℕ → Type 0
Ended devices cells xs = Turned devices cells (ended false (device_of devices cells xs)) (get_or xs TAKEN 0) xs
