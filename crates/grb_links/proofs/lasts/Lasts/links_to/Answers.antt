use Rattle.grb_links.specs.Lasts.{last_of}
use Rattle.grb_links.proofs.Links.{four_links}
use Rattle.grb_links.proofs.lasts.Lasts.links_to.Goals as goal

pub returns : goal.returns
returns c = four_links (last_of c.args.self.now) c.args.read.now _ _ _ _ c.requires c.link_at.ensures c.link_at-2.ensures c.link_at-3.ensures c.link_at-4.ensures
