pub mod CodeTests
