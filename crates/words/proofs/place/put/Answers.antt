-- `words::place::put` meets its contract: its two stores are those of the law.
use Rattle.std.proofs.Common.{◌∙◌, ap₂}
use Rattle.words.proofs.Places.{put_is}
use Rattle.words.proofs.place.put.Goals as goal

pub returns : goal.returns
returns g c =
    let s = g.T.Stored in
    put_is s.of_words s.words_ok _ _ _ _ _ c.requires.k_in_bounds (ap₂ s.of_words c.kind.ensures c.payload.ensures.is ∙ c.payload.ensures.back) (ap₂ s.words_ok c.kind.ensures c.payload.ensures.is ∙ c.payload.ensures.ok)
