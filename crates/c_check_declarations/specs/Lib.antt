pub mod ListedViews
