use Rattle.reading.proofs.loading.tables.Goals as goal

-- a copy of a number is that number
pub returns : goal.returns
returns c = (c.in_ok-vec.ensures.items_if_clones_equal (λ y e. e), c.in_ok-vec-2.ensures.items_if_clones_equal (λ y e. e))
