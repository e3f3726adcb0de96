use Rattle.std.proofs.Common.{ap, subst, ◌∙◌}
use Rattle.m4_state.specs.Device.{with_bytes, HasBegun}
use Rattle.m4_frozen.specs.InspectorSteps.{listing_text}
use Rattle.m4_frozen.proofs.ListingParts.{listing_text-listing}
use Rattle.m4_frozen.proofs.inspector.list.Goals as goal

-- the parts that were begun are those of the listing
pub returns-in_err-put_listing-clause-begun : goal.returns-in_err-put_listing-clause-begun
returns-in_err-put_listing-clause-begun g c fault =
    let text = ap (listing_text c.args.loaded.now) (c.deref.ensures.value ∙ c.in_ok-pairs.ensures.pairs) ∙ listing_text-listing c.args.loaded.now in
    subst (HasBegun (g.W.ByteSink.contents c.args.writer.now) (g.W.ByteSink.contents c.put_listing.new.writer)) text c.in_err-put_listing.ensures.puts

-- the parts are the listing
pub returns-clause-written : goal.returns-clause-written
returns-clause-written g c =
    let text = ap (listing_text c.args.loaded.now) (c.deref.ensures.value ∙ c.in_ok-pairs.ensures.pairs) ∙ listing_text-listing c.args.loaded.now in
    c.in_ok-put_listing.ensures.puts ∙ ap (with_bytes (g.W.ByteSink.contents c.args.writer.now)) text
