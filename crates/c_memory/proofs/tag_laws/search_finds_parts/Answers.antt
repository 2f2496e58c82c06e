use Rattle.c_values.specs.Layout.{shape_of}
use Rattle.c_values.proofs.Leads.{leads_in_range, leads_spot}
use Rattle.c_memory.proofs.Roots.{found_part, found_leads}
use Rattle.c_memory.proofs.tag_laws.search_finds_parts.Goals as goal

pub returns : goal.returns
returns c l u t d path h complete e =
    let f = found_part (shape_of l u) t d path e in
    let leads = found_leads l u t d path h complete e in
    (f.part, leads_in_range leads, leads_spot leads)
