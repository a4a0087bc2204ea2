-- `words::place::get` meets its contract: its two words are those that the definition reads.
use Rattle.words.specs.Place.{words_at}
use Rattle.words.proofs.place.get.Goals as goal

pub from_words-requires : goal.from_words-requires
unfolding words_at
from_words-requires g c = c.requires.k_value

pub returns-clause-is : goal.returns-clause-is
unfolding words_at
returns-clause-is g c = c.from_words.ensures.is
