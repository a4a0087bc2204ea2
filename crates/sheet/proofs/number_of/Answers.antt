-- `sheet::number_of` meets its contract: each arm is its number.
use Rattle.sheet.proofs.number_of.Goals as goal

pub returns-in-NoTable : goal.returns-in-NoTable
returns-in-NoTable c = rw c.in-NoTable.is

pub returns-in-OutsideAllowed : goal.returns-in-OutsideAllowed
returns-in-OutsideAllowed c = rw c.in-OutsideAllowed.is

pub returns-in-NoDevice : goal.returns-in-NoDevice
returns-in-NoDevice c = rw c.in-NoDevice.is

pub returns-in-NoCell : goal.returns-in-NoCell
returns-in-NoCell c = rw c.in-NoCell.is

pub returns-in-NotFinite : goal.returns-in-NotFinite
returns-in-NotFinite c = rw c.in-NotFinite.is

pub returns-in-NotEstablished : goal.returns-in-NotEstablished
returns-in-NotEstablished c = rw c.in-NotEstablished.is

pub returns-in-NoPush : goal.returns-in-NoPush
returns-in-NoPush c = rw c.in-NoPush.is

pub returns-in-NoChannel : goal.returns-in-NoChannel
returns-in-NoChannel c = rw c.in-NoChannel.is

pub returns-in-NoItem : goal.returns-in-NoItem
returns-in-NoItem c = rw c.in-NoItem.is

pub returns-in-NothingToDrop : goal.returns-in-NothingToDrop
returns-in-NothingToDrop c = rw c.in-NothingToDrop.is

pub returns-in-NoRequest : goal.returns-in-NoRequest
returns-in-NoRequest c = rw c.in-NoRequest.is

pub returns-in-NoConnection : goal.returns-in-NoConnection
returns-in-NoConnection c = rw c.in-NoConnection.is

pub returns-in-PendingFull : goal.returns-in-PendingFull
returns-in-PendingFull c = rw c.in-PendingFull.is

pub returns-in-PushesSpent : goal.returns-in-PushesSpent
returns-in-PushesSpent c = rw c.in-PushesSpent.is

pub returns-in-Held : goal.returns-in-Held
returns-in-Held c = rw c.in-Held.is

pub returns-in-BufferShort : goal.returns-in-BufferShort
returns-in-BufferShort c = rw c.in-BufferShort.is

pub returns-in-NoImage : goal.returns-in-NoImage
returns-in-NoImage c = rw c.in-NoImage.is

pub returns-in-NoStep : goal.returns-in-NoStep
returns-in-NoStep c = rw c.in-NoStep.is
