use Rattle.std.specs.Prelude.{take, map}
use Rattle.cr_making.specs.Made.{Makes}
use Rattle.cr_making.specs.Making.{all}
use Rattle.cr_making.specs.Declaring.{type_parameter}
use Rattle.cr_constructs.proofs.constructs.Constructs.type_parameters.Given as goal

abbrev pub invariant-loop-name : goal.invariant-loop-name
invariant-loop-name g l = Makes (all (map (type_parameter l.at) (take l.name-index l.name-items))) l.initial.maker l.maker
