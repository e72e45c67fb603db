use Rattle.std.proofs.Common.{Some}
use Rattle.cr_tool.specs.declared.ending.Code.TheVariants.{NotBuilt}
use Rattle.cr_tool.specs.Refusals.{list_of_sums}
use Rattle.cr_tool.proofs.Closings.{refused_as, refused_program}
use Rattle.cr_tool.proofs.opening.refuse_front.Goals as goal

pub returns-in-None : goal.returns-in-None
returns-in-None c =
    refused_as list_of_sums c.args.source.now (record { code = NotBuilt; at = Some c.args.place }) c.refuse.result (record { may = (c.args.place, c.requires.unbuilt); breaks = (c.requires.unbuilt, c.in-None.ensures) }) c.refuse.ensures

pub returns-in-Some : goal.returns-in-Some
returns-in-Some c =
    refused_program list_of_sums c.args.source.now c.in-Some.fault c.refuse_program.result (c.args.place, c.requires.unbuilt) c.in-Some.ensures c.refuse_program.ensures
