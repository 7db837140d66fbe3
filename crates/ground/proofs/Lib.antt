mod Bound
mod Counted
mod LeafSigns
mod Same
mod Tests
