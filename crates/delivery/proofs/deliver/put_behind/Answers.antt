-- `delivery::deliver::put_behind` meets its contract: the item is stored behind the last, and the length grows.
use Rattle.delivery.proofs.Delivers.{put_behind_last}
use Rattle.delivery.proofs.deliver.put_behind.Goals as goal

pub returns : goal.returns
returns c = put_behind_last _ _ _ _ _ c.requires c.put_item.auto.r c.put_item.ensures
