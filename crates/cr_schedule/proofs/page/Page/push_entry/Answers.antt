use Rattle.std.specs.Fmt.{decimal}
use Rattle.cr_schedule.specs.declared.trace_line.TheConstants.{SPACE, LINE_FEED, STEPS}
use Rattle.cr_schedule.specs.Trace.{optional, optional_fiber}
use Rattle.cr_schedule.proofs.Pages.{five_pieces}
use Rattle.cr_schedule.proofs.page.Page.push_entry.Goals as goal

pub returns-in-Steps : goal.returns-in-Steps
returns-in-Steps c =
    rw c.in-Steps.is
    (five_pieces c.args.self.now c.push_letter.new.self c.push_number.new.self c.push_number-in-Steps.new.self c.push_optional.new.self c.push_partner.new.self c.push_optional-in-Steps.new.self
    (decimal c.in-Steps.fiber.0) (decimal c.in-Steps.count) (optional c.in-Steps.clause) (optional_fiber c.in-Steps.partner) (optional c.in-Steps.partner_clause)
    STEPS SPACE LINE_FEED
    c.push_letter.ensures c.push_number.ensures.text c.push_number-in-Steps.ensures.text c.push_optional.ensures.text c.push_partner.ensures.text c.push_optional-in-Steps.ensures.text)
