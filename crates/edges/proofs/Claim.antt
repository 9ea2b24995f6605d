-- The one claim: the definitions that the contracts cite give what the document prints.
-- Assumes nothing.
use mathlib.Core.Path.{◌≡◌, refl}
use lib.Count.{count_trailing_zeros}
use lib.Ieee.{odd}
use Rattle.convolution.specs.Code.{g1, g2, encode, coded_form}
use Rattle.crc24q.specs.Check.{◌⊕◌, generator, reduce, step, divide, check_of}
use Rattle.ephemeris.specs.Exactly.{times, exactly}
use Rattle.fields.specs.Table.{head, subframe1}
use Rattle.fields.specs.Fields.{twos}
use Rattle.weektime.specs.Time.{towc_refused, began_of}
use Rattle.edges.specs.Edges.{given, printed}

pub edges : given ≡ printed
unfolding given printed coded_form encode g1 g2 check_of divide step reduce generator ◌⊕◌ began_of towc_refused twos exactly times odd count_trailing_zeros head subframe1
edges = refl
